-- The lines of a text and of a block.
use Rattle.std.proofs.Common.{◌≡◌, ◌∙◌, ℕ, zero, ◌+◌, ◌^◌, ◌<◌, ◌≤◌, Bool, true, false, not, List, [], ◌∷◌, ◌++◌, length, get_or, take, drop, suc, Option, None, Some, refl, sym, ap, arith, append_assoc}
use Rattle.std.specs.Prelude.{◌==◌, flat_map, IfSome}
use Rattle.std.specs.List.{prefix_len}
use Rattle.std.proofs.lemmas.Grind.{flat_map-append}
use Rattle.std.proofs.lemmas.List.{drop_more, take-map}
use Rattle.std.proofs.lemmas.List.Folds.{length-prefix_len}
use Rattle.memchr.specs.Find.{IsFirstByte, Nowhere, Passes, is_byte}
use Rattle.scasp_copies.specs.Pieces.{Piece, Split, piece_text, split_lines, with_byte}
use Rattle.scasp_print_shared.specs.Inside.Lines.{Splits, behind_tree, read, read_all, with_line}
use Rattle.scasp_print_shared.specs.Shared.{is_behind, is_tree, numbered, shared_block, shared_lines}
use Rattle.scasp_print_shared.specs.declared.lines.Line.{Line}

abbrev pub is_inside : ℕ → Bool
is_inside b = not (b == 10)

abbrev pub only_rest : List ℕ → Split
only_rest bs = record { lines = []; rest = bs }

pub split-rest : (bs : List ℕ) → length bs ≤ prefix_len is_inside bs → split_lines bs ≡ only_rest bs
split-rest [] h = refl
split-rest (b ∷ bs) h = by (b == 10) refl (split-rest bs)
  where
    by : (t : Bool) → (b == 10) ≡ t → (length bs ≤ prefix_len is_inside bs → split_lines bs ≡ only_rest bs) → split_lines (b ∷ bs) ≡ only_rest (b ∷ bs)
    by true q ih = let k = rw q at h in absurd (omega (arith))
    by false q ih = let k = rw q at h in rw q (ap (with_byte b) (ih (omega (arith))))

-- one byte more before the first line feed
byte-line : (b m : ℕ) (bs : List ℕ) → with_byte b (with_line (take m bs) (split_lines (drop (m + 1) bs))) ≡ with_line (take (1 + m) (b ∷ bs)) (split_lines (drop (1 + m + 1) (b ∷ bs)))
byte-line b m bs =
    let e : 1 + m ≡ suc m = omega arith in
    let f : 1 + m + 1 ≡ suc (m + 1) = omega arith in
    sym (λ i. with_line (take (e i) (b ∷ bs)) (split_lines (drop (f i) (b ∷ bs))))

pub split-line : (bs : List ℕ) → prefix_len is_inside bs < length bs → split_lines bs ≡ with_line (take (prefix_len is_inside bs) bs) (split_lines (drop (prefix_len is_inside bs + 1) bs))
split-line [] h = absurd (omega (arith))
split-line (b ∷ bs) h = by (b == 10) refl (split-line bs)
  where
    by : (t : Bool) → (b == 10) ≡ t → (prefix_len is_inside bs < length bs → split_lines bs ≡ with_line (take (prefix_len is_inside bs) bs) (split_lines (drop (prefix_len is_inside bs + 1) bs)))
        → split_lines (b ∷ bs) ≡ with_line (take (prefix_len is_inside (b ∷ bs)) (b ∷ bs)) (split_lines (drop (prefix_len is_inside (b ∷ bs) + 1) (b ∷ bs)))
    by true q ih = rw q refl
    by false q ih = let k = rw q at h in rw q (ap (with_byte b) (ih (omega (arith))) ∙ byte-line b (prefix_len is_inside bs) bs)

none-feed : (bs : List ℕ) → Nowhere (Passes (is_byte 10) bs) 0 (length bs) → prefix_len is_inside bs ≡ length bs
none-feed [] h = refl
none-feed (b ∷ bs) h = by (b == 10) refl (none-feed bs (λ k l g p. h (suc k) (omega arith) (omega (arith, g)) p))
  where
    by : (t : Bool) → (b == 10) ≡ t → prefix_len is_inside bs ≡ length bs → prefix_len is_inside (b ∷ bs) ≡ length (b ∷ bs)
    by true q ih = absurd (h 0 (omega arith) (omega arith) q)
    by false q ih = rw q (omega (arith, ih))

at-feed : (bs : List ℕ) (k : ℕ) → k < length bs → Nowhere (Passes (is_byte 10) bs) 0 k → Passes (is_byte 10) bs k → prefix_len is_inside bs ≡ k
at-feed [] k l h p = absurd (omega (arith, l))
at-feed (b ∷ bs) zero l h p = rw p refl
at-feed (b ∷ bs) (suc k) l h p =
    by (b == 10) refl (at-feed bs k (omega (arith, l)) (λ j i g r. h (suc j) (omega arith) (omega (arith, g)) r) p)
  where
    by : (t : Bool) → (b == 10) ≡ t → prefix_len is_inside bs ≡ k → prefix_len is_inside (b ∷ bs) ≡ suc k
    by true q ih = absurd (h 0 (omega arith) (omega arith) q)
    by false q ih = rw q (omega (arith, ih))

-- the bytes are split at the first line feed
pub feed-splits : (bs : List ℕ) (r : Option ℕ) → IsFirstByte (is_byte 10) bs r → Splits bs r
feed-splits bs None h = split-rest bs (omega (arith, none-feed bs h))
feed-splits bs (Some k) h =
    let e = at-feed bs k h.0.high h.0.before h.1 in
    split-line bs (omega (arith, e, h.0.high)) ∙ ap (λ n. with_line (take n bs) (split_lines (drop (n + 1) bs))) e

pub feed-within : (bs : List ℕ) (r : Option ℕ) → IsFirstByte (is_byte 10) bs r → IfSome r (λ k. k < length bs)
feed-within bs None h = tt
feed-within bs (Some k) h = h.0.high

pub feed-room : (bs : List ℕ) (r : Option ℕ) → length bs < 2 ^ 63 → IsFirstByte (is_byte 10) bs r → IfSome r (λ k. k + 1 < 2 ^ 64)
feed-room bs None g h = tt
feed-room bs (Some k) g h = omega (arith, g, h.0.high)

-- ---- the parts of a block

-- those behind the line `tree`
abbrev pub shared_behind : List Piece → List Piece
shared_behind ps = shared_lines [] (numbered ps) ++ drop (length (numbered ps)) ps

pub shared-parts : (ps : List Piece) → shared_block ps ≡ take (behind_tree ps) ps ++ shared_behind (drop (behind_tree ps) ps)
shared-parts [] = refl
shared-parts (p ∷ ps) = by (is_tree p) refl (shared-parts ps)
  where
    by : (t : Bool) → is_tree p ≡ t → shared_block ps ≡ take (behind_tree ps) ps ++ shared_behind (drop (behind_tree ps) ps)
        → shared_block (p ∷ ps) ≡ take (behind_tree (p ∷ ps)) (p ∷ ps) ++ shared_behind (drop (behind_tree (p ∷ ps)) (p ∷ ps))
    by true q ih = rw q refl
    by false q ih =
        let e : 1 + behind_tree ps ≡ suc (behind_tree ps) = omega arith in
        rw q (ap (λ z. p ∷ z) ih ∙ sym (λ j. take (e j) (p ∷ ps) ++ shared_behind (drop (e j) (p ∷ ps))))

-- ---- lines as read

abbrev pub no_line : Line
no_line = record { depth = 0; words = record { ref_ptr = (0, 0); now = [] } }

pub read-at : (ls : List Line) (k : ℕ) (l : Line) → l ≡ get_or ls k l → read l ≡ get_or (read_all ls) k (read l)
read-at ls k l e = ap read e ∙ sym (mapped ls k)
  where
    mapped : (xs : List Line) (i : ℕ) → get_or (read_all xs) i (read l) ≡ read (get_or xs i l)
    mapped [] i = refl
    mapped (x ∷ xs) zero = refl
    mapped (x ∷ xs) (suc i) = mapped xs i

pub lines-from : (ls : List Line) (k : ℕ) (l : Line) → k < length ls → l ≡ get_or ls k l → read_all (drop k ls) ≡ read l ∷ read_all (drop (k + 1) ls)
lines-from ls k l h e = ap read_all (drop_more ls k l h) ∙ ap (λ x. read x ∷ read_all (drop (k + 1) ls)) (sym e)

pub drop-read : (ls : List Line) (k : ℕ) → drop k (read_all ls) ≡ read_all (drop k ls)
drop-read ls zero = refl
drop-read [] (suc k) = refl
drop-read (l ∷ ls) (suc k) = drop-read ls k

-- ---- the text of a block, by its parts

abbrev text_of : List Piece → List ℕ
text_of ps = flat_map piece_text ps

pub block-text : (ls front behind inner others : List Line) (n m : ℕ) (out a b : List ℕ)
    → n ≡ behind_tree (read_all ls) → front ≡ take n ls → behind ≡ drop n ls
    → m ≡ prefix_len (λ p. not (is_behind p)) (read_all behind) → inner ≡ take m behind → others ≡ drop m behind
    → a ≡ out ++ flat_map piece_text (read_all front) → b ≡ a ++ flat_map piece_text (shared_lines [] (read_all inner))
    → b ++ flat_map piece_text (read_all others) ≡ out ++ flat_map piece_text (shared_block (read_all ls))
block-text ls front behind inner others n m out a b ni fi bi mi ii oi ai bj =
    let ps = read_all ls in
    let f : Piece → Bool = λ p. not (is_behind p) in
    let xs = read_all behind in
    let first : read_all front ≡ take (behind_tree ps) ps = ap read_all fi ∙ sym (take-map read n ls) ∙ ap (λ k. take k ps) ni in
    let rest : xs ≡ drop (behind_tree ps) ps = ap read_all bi ∙ sym (drop-read ls n) ∙ ap (λ k. drop k ps) ni in
    let middle : read_all inner ≡ numbered xs = ap read_all ii ∙ sym (take-map read m behind) ∙ ap (λ k. take k xs) mi in
    let last : read_all others ≡ drop (length (numbered xs)) xs =
    ap read_all oi ∙ sym (drop-read behind m) ∙ ap (λ k. drop k xs) (mi ∙ sym (length-prefix_len f xs)) in
    let front_text = text_of (take (behind_tree ps) ps) in
    let inner_text = text_of (shared_lines [] (numbered xs)) in
    let last_text = text_of (drop (length (numbered xs)) xs) in
    let start : a ≡ out ++ front_text = ai ∙ ap (λ z. out ++ text_of z) first in
    let more : b ≡ (out ++ front_text) ++ inner_text = bj ∙ (λ i. start i ++ text_of (shared_lines [] (middle i))) in
    let block : text_of (shared_block ps) ≡ front_text ++ (inner_text ++ last_text) =
    ap text_of (shared-parts ps)
    ∙ ap (λ z. text_of (take (behind_tree ps) ps ++ shared_behind z)) (sym rest)
    ∙ flat_map-append piece_text (take (behind_tree ps) ps) (shared_behind xs)
    ∙ ap (λ z. front_text ++ z) (flat_map-append piece_text (shared_lines [] (numbered xs)) (drop (length (numbered xs)) xs)) in
    (λ i. more i ++ text_of (last i))
    ∙ append_assoc (out ++ front_text) inner_text last_text
    ∙ append_assoc out front_text (inner_text ++ last_text)
    ∙ ap (λ z. out ++ z) (sym block)
