-- Whether a copy stands for the subtree at the front.
use Rattle.std.proofs.Common.{◌≡◌, ℕ, suc, ◌+◌, ◌^◌, ◌<◌, ◌∙◌, Bool, true, false, not, ◌&&◌, ◌||◌, List, [], ◌∷◌, ◌++◌, length, map, take, drop, None, Some, refl, sym, ap, arith}
use Rattle.std.specs.Prelude.{◌==◌, nat_le, nat_lt}
use Rattle.std.specs.List.{prefix_len, take_while}
use Rattle.std.specs.Str.{bytes_eq}
use Rattle.std.proofs.lemmas.Bool.{true≢false, and_parts, cond-true, cond-false, eq-eqb, eqb-true, eqb-false, leb-true, leb-false, ltb-true, ltb-false, lt-ltb, le-ltb, le-leb, lt-leb}
use Rattle.std.proofs.lemmas.List.{length-map, take-append-le}
use Rattle.std.proofs.lemmas.List.Folds.{length-prefix_len, prefix_len-append}
use Rattle.std.proofs.lemmas.List.Sums.{prefix_len-le-length}
use Rattle.std.proofs.lemmas.Slice.Eq.{bytes_eq-Decides}
use Rattle.scasp_copies.specs.Copies.{Move, copied, deeper_than, has_ended, is_call, moved_piece, subtree}
use Rattle.scasp_copies.specs.Pieces.{Piece, same_pieces}
use Rattle.scasp_print_shared.specs.Shared.{are_lines, is_copy}
use Rattle.scasp_print_shared.specs.Inside.Classes.{classes_of, place_in, root_of, roots, stem}
use Rattle.scasp_print_shared.specs.Inside.Keys.{numbers}
use Rattle.scasp_print_shared.specs.declared.classes.Root.{Root}
use Rattle.scasp_print_shared.proofs.RootLemmas.{root-is}
use Rattle.scasp_print_shared.proofs.MoveLemmas.{deeper-are, classes-moved, roots-moved}
use Rattle.scasp_print_shared.proofs.WordLemmas.{stem-moved}

-- ---- the same lines

pub same-are : (ps qs : List Piece) → same_pieces ps qs ≡ true → ps ≡ qs
same-are [] [] e = refl
same-are [] (q ∷ qs) e = absurd (true≢false (sym e))
same-are (p ∷ ps) [] e = absurd (true≢false (sym e))
same-are (p ∷ ps) (q ∷ qs) e =
    let a = and_parts (p.depth == q.depth && bytes_eq p.words q.words) (same_pieces ps qs) e in
    let b = and_parts (p.depth == q.depth) (bytes_eq p.words q.words) a.0 in
    let d : p.depth ≡ q.depth = eqb-true p.depth q.depth b.0 in
    let w = (bytes_eq-Decides p.words q.words).0 b.1 in
    let rest = same-are ps qs a.1 in
    λ j. record { depth = d j; words = w j } ∷ rest j

-- ---- where a subtree ends

lt-suc : (a b : ℕ) → nat_lt (suc a) (suc b) ≡ nat_lt a b
lt-suc a b = by (nat_lt a b) refl
  where
    by : (t : Bool) → nat_lt a b ≡ t → nat_lt (suc a) (suc b) ≡ t
    by true q = let l = ltb-true a b q in lt-ltb (suc a) (suc b) (omega arith)
    by false q = let l = ltb-false a b q in le-ltb (suc a) (suc b) (omega arith)

le-suc : (a b : ℕ) → nat_le (suc a) (suc b) ≡ nat_le a b
le-suc a b = by (nat_le a b) refl
  where
    by : (t : Bool) → nat_le a b ≡ t → nat_le (suc a) (suc b) ≡ t
    by true q = let l = leb-true a b q in le-leb (suc a) (suc b) (omega arith)
    by false q = let l = leb-false a b q in lt-leb (suc a) (suc b) (omega arith)

le-not : (a b : ℕ) → nat_le a b ≡ not (nat_lt b a)
le-not a b = by (nat_lt b a) refl
  where
    by : (t : Bool) → nat_lt b a ≡ t → nat_le a b ≡ not t
    by true q = let l = ltb-true b a q in lt-leb a b (omega arith)
    by false q = let l = ltb-false b a q in le-leb a b (omega arith)

module _ (f : Piece → Bool) (xs : List Piece) (y : Piece) (ys : List Piece) where
  joined-full : prefix_len f xs ≡ length xs → prefix_len f (xs ++ y ∷ ys) ≡ length xs + prefix_len f (y ∷ ys)
  joined-full e =
      prefix_len-append f xs (y ∷ ys)
      ∙ cond-true (prefix_len f xs == length xs) (length xs + prefix_len f (y ∷ ys)) (prefix_len f xs) (eq-eqb (prefix_len f xs) (length xs) e)

  joined-cut : (prefix_len f xs == length xs) ≡ false → prefix_len f (xs ++ y ∷ ys) ≡ prefix_len f xs
  joined-cut e =
      prefix_len-append f xs (y ∷ ys)
      ∙ cond-false (prefix_len f xs == length xs) (length xs + prefix_len f (y ∷ ys)) (prefix_len f xs) e

  joined-past : prefix_len f xs ≡ length xs → f y ≡ true → length xs < prefix_len f (xs ++ y ∷ ys)
  joined-past e q =
      let c = cond-true (f y) (1 + prefix_len f ys) 0 q in
      let j = joined-full e in
      omega (arith, c, j)

  joined-end : prefix_len f xs ≡ length xs → f y ≡ false → prefix_len f (xs ++ y ∷ ys) ≡ prefix_len f xs
  joined-end e q =
      let c = cond-false (f y) (1 + prefix_len f ys) 0 q in
      let j = joined-full e in
      omega (arith, c, j)

  -- the elements at the front end before y, or at y
  front-ends : (nat_lt (prefix_len f xs) (length xs) || not (f y)) ≡ nat_le (prefix_len f (xs ++ y ∷ ys)) (length xs)
  front-ends = by (prefix_len f xs == length xs) refl (f y) refl
    where
      by : (s : Bool) → (prefix_len f xs == length xs) ≡ s → (t : Bool) → f y ≡ t → (nat_lt (prefix_len f xs) (length xs) || not (f y)) ≡ nat_le (prefix_len f (xs ++ y ∷ ys)) (length xs)
      by true p true q =
          let e = eqb-true (prefix_len f xs) (length xs) p in
          let a : nat_lt (prefix_len f xs) (length xs) ≡ false = le-ltb (prefix_len f xs) (length xs) (omega (arith, e)) in
          let b : nat_le (prefix_len f (xs ++ y ∷ ys)) (length xs) ≡ false = lt-leb (prefix_len f (xs ++ y ∷ ys)) (length xs) (joined-past e q) in
          (λ j. a j || not (q j)) ∙ sym b
      by true p false q =
          let e = eqb-true (prefix_len f xs) (length xs) p in
          let a : nat_lt (prefix_len f xs) (length xs) ≡ false = le-ltb (prefix_len f xs) (length xs) (omega (arith, e)) in
          let m = joined-end e q in
          let b : nat_le (prefix_len f (xs ++ y ∷ ys)) (length xs) ≡ true = le-leb (prefix_len f (xs ++ y ∷ ys)) (length xs) (omega (arith, m, e)) in
          (λ j. a j || not (q j)) ∙ sym b
      by false p t q =
          let l = prefix_len-le-length f xs in
          let n = eqb-false (prefix_len f xs) (length xs) p in
          let a : nat_lt (prefix_len f xs) (length xs) ≡ true = lt-ltb (prefix_len f xs) (length xs) (omega (arith, l, n)) in
          let m = joined-cut p in
          let b : nat_le (prefix_len f (xs ++ y ∷ ys)) (length xs) ≡ true = le-leb (prefix_len f (xs ++ y ∷ ys)) (length xs) (omega (arith, m, l)) in
          (λ j. a j || not (f y)) ∙ sym b

  front-same : nat_le (prefix_len f (xs ++ y ∷ ys)) (length xs) ≡ true → prefix_len f (xs ++ y ∷ ys) ≡ prefix_len f xs
  front-same h = by (prefix_len f xs == length xs) refl (f y) refl
    where
      by : (s : Bool) → (prefix_len f xs == length xs) ≡ s → (t : Bool) → f y ≡ t → prefix_len f (xs ++ y ∷ ys) ≡ prefix_len f xs
      by true p true q =
          let l = leb-true (prefix_len f (xs ++ y ∷ ys)) (length xs) h in
          let g = joined-past (eqb-true (prefix_len f xs) (length xs) p) q in
          absurd (omega (arith, l, g))
      by true p false q = joined-end (eqb-true (prefix_len f xs) (length xs) p) q
      by false p t q = joined-cut p

  front-kept : nat_le (prefix_len f (xs ++ y ∷ ys)) (length xs) ≡ true → take_while f (xs ++ y ∷ ys) ≡ take_while f xs
  front-kept h =
      ap (λ k. take k (xs ++ y ∷ ys)) (front-same h) ∙ take-append-le (prefix_len f xs) xs (y ∷ ys) (prefix_len-le-length f xs)

-- the first of them, and whether its subtree has ended where p stands
module _ (q : Piece) (qs : List Piece) (p : Piece) (ps : List Piece) where
  abbrev is_deeper : Piece → Bool
  is_deeper x = nat_lt q.depth x.depth

  subtree-length : length (subtree (q ∷ qs)) ≡ suc (prefix_len is_deeper qs)
  subtree-length = ap suc (length-prefix_len is_deeper qs)

  pub ended-is : has_ended p.depth (q ∷ qs) ≡ nat_le (length (subtree ((q ∷ qs) ++ p ∷ ps))) (length (q ∷ qs))
  ended-is =
      let a : nat_lt (length (subtree (q ∷ qs))) (length (q ∷ qs)) ≡ nat_lt (prefix_len is_deeper qs) (length qs) =
      ap (λ n. nat_lt n (suc (length qs))) subtree-length ∙ lt-suc (prefix_len is_deeper qs) (length qs) in
      let b : nat_le (length (subtree ((q ∷ qs) ++ p ∷ ps))) (length (q ∷ qs)) ≡ nat_le (prefix_len is_deeper (qs ++ p ∷ ps)) (length qs) =
      ap (λ n. nat_le (suc n) (suc (length qs))) (length-prefix_len is_deeper (qs ++ p ∷ ps)) ∙ le-suc (prefix_len is_deeper (qs ++ p ∷ ps)) (length qs) in
      (λ j. a j || le-not p.depth q.depth j) ∙ front-ends is_deeper qs p ps ∙ sym b

  pub ended-kept : has_ended p.depth (q ∷ qs) ≡ true → deeper_than q.depth (qs ++ p ∷ ps) ≡ deeper_than q.depth qs
  ended-kept h =
      let b : nat_le (length (subtree ((q ∷ qs) ++ p ∷ ps))) (length (q ∷ qs)) ≡ nat_le (prefix_len is_deeper (qs ++ p ∷ ps)) (length qs) =
      ap (λ n. nat_le (suc n) (suc (length qs))) (length-prefix_len is_deeper (qs ++ p ∷ ps)) ∙ le-suc (prefix_len is_deeper (qs ++ p ∷ ps)) (length qs) in
      front-kept is_deeper qs p ps (sym b ∙ sym ended-is ∙ h)

-- ---- copies

abbrev pub moved_subtree : ℕ → ℕ → ℕ → Piece → List Piece → List Piece
moved_subtree n to depth q qs =
    map (moved_piece (record { from = n; count = length (subtree (q ∷ qs)); to = to }) q.depth depth) (subtree (q ∷ qs))

-- a copy is these lines where the line it names is a call, has ended, and gives them
pub copy-test : (told : List Piece) (j : ℕ) (q : Piece) (qs : List Piece) (p : Piece) (ps : List Piece) → drop j told ≡ q ∷ qs
    → is_copy told (p ∷ ps) (suc j) ≡ ((is_call q && has_ended p.depth (q ∷ qs)) && same_pieces (moved_subtree (suc j) (length told + 1) p.depth q qs) (subtree (p ∷ ps)))
copy-test told j q qs p ps e =
    ap (λ z. are_lines (copied (suc j) p.depth (length told + 1) z) (subtree (p ∷ ps))) e ∙ by (is_call q && has_ended p.depth (q ∷ qs)) refl
  where
    by : (t : Bool) → (is_call q && has_ended p.depth (q ∷ qs)) ≡ t
        → are_lines (copied (suc j) p.depth (length told + 1) (q ∷ qs)) (subtree (p ∷ ps)) ≡ (t && same_pieces (moved_subtree (suc j) (length told + 1) p.depth q qs) (subtree (p ∷ ps)))
    by true h =
        ap (λ z. are_lines z (subtree (p ∷ ps)))
        (cond-true (is_call q && has_ended p.depth (q ∷ qs)) (Some (moved_subtree (suc j) (length told + 1) p.depth q qs)) None h)
    by false h =
        ap (λ z. are_lines z (subtree (p ∷ ps)))
        (cond-false (is_call q && has_ended p.depth (q ∷ qs)) (Some (moved_subtree (suc j) (length told + 1) p.depth q qs)) None h)

-- what a copy gives has as many lines as the subtree that it names
pub copy-length : (told : List Piece) (j : ℕ) (q : Piece) (qs : List Piece) (p : Piece) (ps : List Piece) → drop j told ≡ q ∷ qs
    → is_copy told (p ∷ ps) (suc j) ≡ true → (length (subtree ((q ∷ qs) ++ p ∷ ps)) ≡ length (subtree (q ∷ qs))) × (length (subtree (q ∷ qs)) ≡ length (subtree (p ∷ ps)))
copy-length told j q qs p ps e h =
    let t = and_parts (is_call q && has_ended p.depth (q ∷ qs)) (same_pieces (moved_subtree (suc j) (length told + 1) p.depth q qs) (subtree (p ∷ ps))) (sym (copy-test told j q qs p ps e) ∙ h) in
    let c = and_parts (is_call q) (has_ended p.depth (q ∷ qs)) t.0 in
    let m : Move = record { from = suc j; count = length (subtree (q ∷ qs)); to = length told + 1 } in (
      ap (λ z. suc (length z)) (ended-kept q qs p ps c.1),
      sym (length-map (subtree (q ∷ qs)) (moved_piece m q.depth p.depth)) ∙ ap length (same-are (moved_subtree (suc j) (length told + 1) p.depth q qs) (subtree (p ∷ ps)) t.1),
    )

tail-is : (a b : Piece) (xs ys : List Piece) → a ∷ xs ≡ b ∷ ys → (a ≡ b) × (xs ≡ ys)
tail-is a b xs ys e = let p : a ≡ b = cc in let q : xs ≡ ys = cc in (p, q)

-- a subtree and one that copies to it have one class
pub copy-class : (table : List (List ℕ)) (told : List Piece) (j : ℕ) (q : Piece) (qs : List Piece) (p : Piece) (ps : List Piece) → drop j told ≡ q ∷ qs
    → length told + 1 + length (subtree (p ∷ ps)) < 2 ^ 64 → is_copy told (p ∷ ps) (suc j) ≡ true
    → (root_of table q (roots table (qs ++ p ∷ ps))).class ≡ (root_of table p (roots table ps)).class
copy-class table told j q qs p ps e room h =
    let t = and_parts (is_call q && has_ended p.depth (q ∷ qs)) (same_pieces (moved_subtree (suc j) (length told + 1) p.depth q qs) (subtree (p ∷ ps))) (sym (copy-test told j q qs p ps e) ∙ h) in
    let c = and_parts (is_call q) (has_ended p.depth (q ∷ qs)) t.0 in
    let lengths = copy-length told j q qs p ps e h in
    let inner = deeper_than q.depth qs in
    let m : Move = record { from = suc j; count = length (subtree (q ∷ qs)); to = length told + 1 } in
    let small : m.to + m.count < 2 ^ 64 = omega (arith, lengths.1, room) in
    let parts = tail-is (moved_piece m q.depth p.depth q) p (map (moved_piece m q.depth p.depth) inner) (deeper_than p.depth ps) (same-are (moved_subtree (suc j) (length told + 1) p.depth q qs) (subtree (p ∷ ps)) t.1) in
    let classes : classes_of (roots table (deeper_than p.depth ps)) ≡ classes_of (roots table inner) =
    ap (λ z. classes_of (roots table z)) (sym parts.1)
    ∙ ap classes_of (roots-moved q.depth p.depth m table inner small (deeper-are q.depth qs))
    ∙ classes-moved q.depth p.depth (roots table inner) in
    let words : stem p.words ≡ stem q.words = ap (λ (x : Piece). stem x.words) (sym parts.0) ∙ stem-moved m q.words small in
    ap (λ (r : Root). r.class) (root-is table q (qs ++ p ∷ ps))
    ∙ ap (λ z. place_in table (numbers (stem q.words) (classes_of (roots table z)))) (ended-kept q qs p ps c.1)
    ∙ (λ i. place_in table (numbers (sym words i) (sym classes i)))
    ∙ sym (ap (λ (r : Root). r.class) (root-is table p ps))
