-- The lines of a subtree.
use Rattle.std.proofs.Common.{◌≡◌, ◌∙◌, ℕ, suc, zero, ◌+◌, ◌-◌, ◌<◌, ◌≤◌, Bool, true, false, List, [], ◌∷◌, ◌++◌, length, take, drop, map, get_or, subst, None, Some, refl, sym, ap, arith}
use Rattle.std.specs.Prelude.{nat_lt, nat_le, ◌||◌, ◌&&◌, Option}
use Rattle.std.specs.List.{prefix_len}
use Rattle.std.proofs.lemmas.List.{drop-map, take-map, take_rest}
use Rattle.std.proofs.lemmas.List.Folds.{length-prefix_len}
use Rattle.std.proofs.Math.ListN.{drop_of_length-le}
use Rattle.scasp_copies.specs.Pieces.{Piece}
use Rattle.scasp_copies.specs.Copies.{subtree, is_call, has_ended, moved_piece, copied, copy_of}
use Rattle.scasp_copies.specs.View.{line_piece, pieces_of}
use Rattle.scasp_copies.specs.declared.line.BlockLine.{BlockLine}

deeper : (d : ℕ) (ls : List BlockLine) → prefix_len (λ (p : Piece). nat_lt d p.depth) (pieces_of ls) ≡ prefix_len (λ (l : BlockLine). nat_lt d l.depth) ls
deeper d [] = refl
deeper d (l ∷ ls) = by (nat_lt d l.depth) refl (deeper d ls)
  where
    by : (b : Bool) → nat_lt d l.depth ≡ b → prefix_len (λ (p : Piece). nat_lt d p.depth) (pieces_of ls) ≡ prefix_len (λ (k : BlockLine). nat_lt d k.depth) ls
        → prefix_len (λ (p : Piece). nat_lt d p.depth) (pieces_of (l ∷ ls)) ≡ prefix_len (λ (k : BlockLine). nat_lt d k.depth) (l ∷ ls)
    by true q ih = rw q (ap (λ n. 1 + n) ih)
    by false q ih = rw q refl

subtree_length : (l : BlockLine) (ls : List BlockLine) → length (subtree (pieces_of (l ∷ ls))) ≡ 1 + prefix_len (λ (k : BlockLine). nat_lt l.depth k.depth) ls
subtree_length l ls =
    let n = prefix_len (λ (k : BlockLine). nat_lt l.depth k.depth) ls in
    let plus : suc n ≡ 1 + n = omega arith in
    ap suc (length-prefix_len (λ (p : Piece). nat_lt l.depth p.depth) (pieces_of ls) ∙ deeper l.depth ls) ∙ plus

pub subtree_count : (ls : List BlockLine) (l : BlockLine) → ls ≡ l ∷ drop 1 ls → length (subtree (pieces_of ls)) ≡ 1 + prefix_len (λ (k : BlockLine). nat_lt l.depth k.depth) (drop 1 ls)
subtree_count ls l e = ap (λ (xs : List BlockLine). length (subtree (pieces_of xs))) e ∙ subtree_length l (drop 1 ls)

-- the subtree is the lines at the front, as many as it has
subtree_front : (ps : List Piece) → subtree ps ≡ take (length (subtree ps)) ps
subtree_front [] = refl
subtree_front (p ∷ ps) = ap (λ n. p ∷ take n ps) (sym (length-prefix_len (λ (q : Piece). nat_lt p.depth q.depth) ps))

copy_behind : (n depth : ℕ) (told : List Piece) → 0 < n → copy_of n depth told ≡ copied n depth (length told + 1) (drop (n - 1) told)
copy_behind zero depth told h = absurd (omega arith)
copy_behind (suc n) depth told h = let e : suc n - 1 ≡ n = omega arith in rw e refl

pub no_copy : (n depth : ℕ) (told : List Piece) → length told < n → copy_of n depth told ≡ None
no_copy zero depth told h = refl
no_copy (suc n) depth told h = let e : drop n told ≡ [] = drop_of_length-le told (omega arith) in rw e refl

pieces-length : (ls : List BlockLine) → length (pieces_of ls) ≡ length ls
pieces-length [] = refl
pieces-length (l ∷ ls) = ap suc (pieces-length ls)

-- lines that begin with this one
pub first_of : (ls : List BlockLine) (l : BlockLine) → 1 ≤ length ls → get_or ls 0 l ≡ l → ls ≡ l ∷ drop 1 ls
first_of [] l h e = absurd (omega (arith, h))
first_of (k ∷ ks) l h e = ap (λ x. x ∷ ks) e

-- whether the subtree has ended, by the number of its lines
pub ended_by : (depth : ℕ) (ls : List BlockLine) (l : BlockLine) → ls ≡ l ∷ drop 1 ls
    → has_ended depth (pieces_of ls) ≡ nat_lt (length (subtree (pieces_of ls))) (length ls) || nat_le depth l.depth
ended_by depth ls l e =
    subst (λ (xs : List BlockLine). has_ended depth (pieces_of xs) ≡ nat_lt (length (subtree (pieces_of xs))) (length xs) || nat_le depth l.depth) (sym e) (by (drop 1 ls))
  where
    by : (rest : List BlockLine) → has_ended depth (pieces_of (l ∷ rest)) ≡ nat_lt (length (subtree (pieces_of (l ∷ rest)))) (length (l ∷ rest)) || nat_le depth l.depth
    by rest = ap (λ n. nat_lt (length (subtree (pieces_of (l ∷ rest)))) n || nat_le depth l.depth) (pieces-length (l ∷ rest))

copied_cons : (n depth to count : ℕ) (l : BlockLine) (rest : List BlockLine) → count ≡ length (subtree (pieces_of (l ∷ rest)))
    → is_call (line_piece l) ≡ true → has_ended depth (pieces_of (l ∷ rest)) ≡ true
    → copied n depth to (pieces_of (l ∷ rest)) ≡ Some (map (moved_piece (record { from = n; count = count; to = to }) l.depth depth) (pieces_of (take count (l ∷ rest))))
copied_cons n depth to count l rest e call ended =
    let ps = pieces_of (l ∷ rest) in
    let moved : ℕ → List Piece → Option (List Piece) = λ c s. Some (map (moved_piece (record { from = n; count = c; to = to }) l.depth depth) s) in
    let lines : subtree ps ≡ pieces_of (take count (l ∷ rest)) = subtree_front ps ∙ ap (λ k. take k ps) (sym e) ∙ take-map line_piece count (l ∷ rest) in
    rw (call, ended) (ap (λ c. moved c (subtree ps)) (sym e) ∙ ap (moved count) lines)

pub copied_by : (n depth to count : ℕ) (ls : List BlockLine) (l : BlockLine) → ls ≡ l ∷ drop 1 ls → count ≡ length (subtree (pieces_of ls))
    → is_call (line_piece l) ≡ true → has_ended depth (pieces_of ls) ≡ true
    → copied n depth to (pieces_of ls) ≡ Some (map (moved_piece (record { from = n; count = count; to = to }) l.depth depth) (pieces_of (take count ls)))
copied_by n depth to count ls l e k call ended =
    let k' : count ≡ length (subtree (pieces_of (l ∷ drop 1 ls))) = k ∙ ap (λ (xs : List BlockLine). length (subtree (pieces_of xs))) e in
    let ended' : has_ended depth (pieces_of (l ∷ drop 1 ls)) ≡ true = ap (λ (xs : List BlockLine). has_ended depth (pieces_of xs)) (sym e) ∙ ended in
    subst (λ (xs : List BlockLine). copied n depth to (pieces_of xs) ≡ Some (map (moved_piece (record { from = n; count = count; to = to }) l.depth depth) (pieces_of (take count xs))))
    (sym e) (copied_cons n depth to count l (drop 1 ls) k' call ended')

pub not_copied : (n depth to : ℕ) (ls : List BlockLine) (l : BlockLine) → ls ≡ l ∷ drop 1 ls → (is_call (line_piece l) && has_ended depth (pieces_of ls)) ≡ false
    → copied n depth to (pieces_of ls) ≡ None
not_copied n depth to ls l e h = subst (λ (xs : List BlockLine). copied n depth to (pieces_of xs) ≡ None) (sym e) (by (drop 1 ls) (ap (λ (xs : List BlockLine). is_call (line_piece l) && has_ended depth (pieces_of xs)) (sym e) ∙ h))
  where
    by : (rest : List BlockLine) → (is_call (line_piece l) && has_ended depth (pieces_of (l ∷ rest))) ≡ false → copied n depth to (pieces_of (l ∷ rest)) ≡ None
    by rest q = rw q refl

-- the copy of line n, where the lines from n on are looked at
pub copy_from : (n depth to : ℕ) (ls : List BlockLine) (told : List Piece) → told ≡ pieces_of ls → 0 < n → to ≡ length ls + 1
    → copied n depth to (pieces_of (take (length ls - (n - 1)) (drop (n - 1) ls))) ≡ copy_of n depth told
copy_from n depth to ls told e some t =
    let e' : length told ≡ length (pieces_of ls) = ap length e in
    let to' : to ≡ length told + 1 = omega (arith, t, e', pieces-length ls) in
    ap (λ xs. copied n depth to (pieces_of xs)) (take_rest ls (n - 1))
    ∙ ap (copied n depth to) (sym (drop-map line_piece (n - 1) ls) ∙ ap (drop (n - 1)) (sym e))
    ∙ ap (λ k. copied n depth k (drop (n - 1) told)) to'
    ∙ sym (copy_behind n depth told some)
