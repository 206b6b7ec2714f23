-- Whether a line is copied, by the lines and their marks.
use Rattle.std.proofs.Common.{inl, inr, ◌≡◌, ℕ, suc, ◌+◌, ◌-◌, ◌<◌, ◌≤◌, ◌∙◌, Bool, true, false, ◌&&◌, List, [], ◌∷◌, ◌++◌, length, get_or, map, take, drop, None, Some, refl, sym, ap, arith}
use Rattle.std.specs.Prelude.{◌==◌, ◌⊎◌, nat_le, nat_lt}
use Rattle.std.specs.Str.{bytes_eq}
use Rattle.std.proofs.Math.Seq.{drop-cons}
use Rattle.std.proofs.lemmas.Bool.{true≢false, and_parts, cond-true, cond-false, le-leb, leb-true, lt-leb, false_from_ne_true}
use Rattle.std.proofs.lemmas.List.{length-drop, length-map, length-take-le, get_or-take, get_or_default, take-append-drop, take-map, drop-append-le, drop_more}
use Rattle.std.proofs.lemmas.List.Folds.{length-prefix_len}
use Rattle.scasp_copies.specs.Copies.{Move, has_ended, is_call, moved_piece, moved_words, subtree}
use Rattle.scasp_copies.specs.Pieces.{Piece, same_pieces}
use Rattle.scasp_print_shared.specs.Shared.{is_copy, least, least_copy}
use Rattle.scasp_print_shared.specs.Inside.Classes.{AreMarks}
use Rattle.scasp_print_shared.specs.Inside.Lines.{read, read_all}
use Rattle.scasp_print_shared.specs.Inside.Places.{first_among, places_of}
use Rattle.scasp_print_shared.specs.declared.classes.Root.{Root}
use Rattle.scasp_print_shared.specs.declared.lines.Line.{Line}
use Rattle.scasp_print_shared.proofs.CopyLemmas.{copy-length, copy-test, ended-is, ended-kept, moved_subtree}
use Rattle.scasp_print_shared.proofs.LineLemmas.{drop-read, lines-from, read-at}
use Rattle.scasp_print_shared.proofs.PlaceLemmas.{first-of}
use Rattle.scasp_print_shared.proofs.RootLemmas.{subtree-within}

pub subtree-front : (ps : List Piece) → take (length (subtree ps)) ps ≡ subtree ps
subtree-front [] = refl
subtree-front (p ∷ ps) =
    let f : Piece → Bool = λ x. nat_lt p.depth x.depth in ap (λ n. p ∷ take n ps) (length-prefix_len f ps)

abbrev move : ℕ → ℕ → ℕ → Move
move from count to = record { from = from; count = count; to = to }

-- ---- a line that may be copied

module _ (ps : List Piece) (place line : ℕ) (q p : Piece) (before : place < line) (within : line < length ps) (q-at : q ≡ get_or ps place q) (p-at : p ≡ get_or ps line p) where
  told-size : length (take line ps) ≡ line
  told-size = length-take-le line ps (omega (arith, within))

  q-told : get_or (take line ps) place q ≡ q
  q-told = get_or-take line ps place q before ∙ sym q-at

  front : drop place (take line ps) ≡ q ∷ drop (suc place) (take line ps)
  front =
      drop-cons (take line ps) place q (omega (arith, before, told-size)) ∙ ap (λ x. x ∷ drop (suc place) (take line ps)) q-told

  behind : drop line ps ≡ p ∷ drop (suc line) ps
  behind = drop-cons ps line p within ∙ ap (λ x. x ∷ drop (suc line) ps) (sym p-at)

  all : drop place ps ≡ (q ∷ drop (suc place) (take line ps)) ++ (p ∷ drop (suc line) ps)
  all =
      ap (drop place) (sym (take-append-drop line ps))
      ∙ drop-append-le place (take line ps) (drop line ps) (omega (arith, before, told-size))
      ∙ (λ i. front i ++ behind i)

  front-size : length (q ∷ drop (suc place) (take line ps)) ≡ line - place
  front-size = ap length (sym front) ∙ length-drop place (take line ps) ∙ ap (λ n. n - place) told-size

  number : place + 1 ≡ suc place
  number = omega arith

  copy-is : is_copy (take line ps) (drop line ps) (place + 1)
      ≡ ((is_call q && has_ended p.depth (q ∷ drop (suc place) (take line ps)))
      && same_pieces (moved_subtree (suc place) (length (take line ps) + 1) p.depth q (drop (suc place) (take line ps))) (subtree (p ∷ drop (suc line) ps)))
  copy-is =
      (λ i. is_copy (take line ps) (behind i) (number i))
      ∙ copy-test (take line ps) place q (drop (suc place) (take line ps)) p (drop (suc line) ps) front

  ended : has_ended p.depth (q ∷ drop (suc place) (take line ps)) ≡ nat_le (length (subtree (drop place ps))) (line - place)
  ended =
      ended-is q (drop (suc place) (take line ps)) p (drop (suc line) ps)
      ∙ (λ i. nat_le (length (subtree (sym all i))) (front-size i))

  module _ (q-count p-count : ℕ) (q-counted : q-count ≡ length (subtree (drop place ps))) (p-counted : p-count ≡ length (subtree (drop line ps))) where
    copied-fits : is_copy (take line ps) (drop line ps) (place + 1) ≡ true → (is_call q ≡ true) × (q-count ≡ p-count) × (q-count ≤ line - place)
    copied-fits h =
        let qs = drop (suc place) (take line ps) in
        let rest = drop (suc line) ps in
        let t = and_parts (is_call q && has_ended p.depth (q ∷ qs)) (same_pieces (moved_subtree (suc place) (length (take line ps) + 1) p.depth q qs) (subtree (p ∷ rest))) (sym copy-is ∙ h) in
        let c = and_parts (is_call q) (has_ended p.depth (q ∷ qs)) t.0 in
        let again : is_copy (take line ps) (p ∷ rest) (suc place) ≡ true = (λ i. is_copy (take line ps) (sym behind i) (sym number i)) ∙ h in
        let lengths = copy-length (take line ps) place q qs p rest front again in
        let le = leb-true (length (subtree (drop place ps))) (line - place) (sym ended ∙ c.1) in
        let size : q-count ≡ p-count =
        q-counted ∙ ap (λ z. length (subtree z)) all ∙ lengths.0 ∙ lengths.1 ∙ ap (λ z. length (subtree z)) (sym behind) ∙ sym p-counted in
        let fits : q-count ≤ line - place = omega (arith, q-counted, le) in
        (c.0, size, fits)

    -- what is no call, or has another size, or has not ended, is not copied
    pub not-copied : (is_call q ≡ false) ⊎ ((q-count ≡ p-count → ⊥) ⊎ (line - place < p-count)) → is_copy (take line ps) (drop line ps) (place + 1) ≡ false
    not-copied (inl n) = false_from_ne_true (is_copy (take line ps) (drop line ps) (place + 1)) (λ h. true≢false (sym (copied-fits h).0 ∙ n))
    not-copied (inr (inl n)) = false_from_ne_true (is_copy (take line ps) (drop line ps) (place + 1)) (λ h. n (copied-fits h).1)
    not-copied (inr (inr n)) =
        false_from_ne_true (is_copy (take line ps) (drop line ps) (place + 1))
        (λ h. let f = copied-fits h in let e = f.1 in let l = f.2 in omega (arith, n, e, l))

    -- and else it is where its lines, moved, are those of the other
    pub copied-same : is_call q ≡ true → q-count ≡ p-count → p-count ≤ line - place
        → is_copy (take line ps) (drop line ps) (place + 1)
        ≡ same_pieces (map (moved_piece (record { from = place + 1; count = p-count; to = line + 1 }) q.depth p.depth) (take p-count (drop place ps))) (take p-count (drop line ps))
    copied-same c e l =
        let qs = drop (suc place) (take line ps) in
        let rest = drop (suc line) ps in
        let has : has_ended p.depth (q ∷ qs) ≡ true =
        ended ∙ le-leb (length (subtree (drop place ps))) (line - place) (omega (arith, q-counted, e, l)) in
        let kept : subtree (drop place ps) ≡ subtree (q ∷ qs) = ap subtree all ∙ ap (λ z. q ∷ z) (ended-kept q qs p rest has) in
        let inner : take p-count (drop place ps) ≡ subtree (q ∷ qs) =
        ap (λ n. take n (drop place ps)) (sym e ∙ q-counted) ∙ subtree-front (drop place ps) ∙ kept in
        let outer : take p-count (drop line ps) ≡ subtree (p ∷ rest) =
        ap (λ n. take n (drop line ps)) p-counted ∙ subtree-front (drop line ps) ∙ ap subtree behind in
        let count : length (subtree (q ∷ qs)) ≡ p-count = ap length (sym kept) ∙ sym q-counted ∙ e in
        let to : length (take line ps) + 1 ≡ line + 1 = ap (λ n. n + 1) told-size in
        copy-is
        ∙ (λ i. (c i && has i) && same_pieces (map (moved_piece (move (sym number i) (count i) (to i)) q.depth p.depth) (sym inner i)) (sym outer i))

-- ---- the lines, moved, are the others

pub same-step : (m : Move) (top depth : ℕ) (ls os : List Line) (k : ℕ) (x y : Line) → k < length ls → length ls ≡ length os → x ≡ get_or ls k x → y ≡ get_or os k y
    → same_pieces (map (moved_piece m top depth) (read_all (drop k ls))) (read_all (drop k os))
    ≡ (((depth + (x.depth - top) == y.depth) && bytes_eq (moved_words m x.words.now) y.words.now)
    && same_pieces (map (moved_piece m top depth) (read_all (drop (k + 1) ls))) (read_all (drop (k + 1) os)))
same-step m top depth ls os k x y h n a b =
    λ i. same_pieces (map (moved_piece m top depth) (lines-from ls k x h a i)) (lines-from os k y (omega (arith, h, n)) b i)

-- ---- the least copy

module _ (ps : List Piece) (ms : List Root) (line : ℕ) (d : Root) (are : AreMarks ps ms) (within : line < length ps) where
  pub no-least : (get_or ms line d).count < 3 → least_copy (take line ps) (drop line ps) ≡ None
  no-least h =
      let n = are.counts line d within in
      cond-false (nat_le 3 (length (subtree (drop line ps)))) (least (is_copy (take line ps) (drop line ps)) 1 (length (take line ps))) None
      (lt-leb 3 (length (subtree (drop line ps))) (omega (arith, n, h)))

  of-class : (j : ℕ) → j < length (take line ms) → is_copy (take line ps) (drop line ps) (0 + j + 1) ≡ true → (get_or (take line ms) j d).class ≡ (get_or ms line d).class
  of-class j h c =
      let size = are.size in
      let told = length-take-le line ms (omega (arith, size, within)) in
      let before : j < line = omega (arith, h, told) in
      let n : 0 + j + 1 ≡ j + 1 = omega arith in
      ap (λ (r : Root). r.class) (get_or-take line ms j d before)
      ∙ are.classes j line d before within (ap (is_copy (take line ps) (drop line ps)) (sym n) ∙ c)

  pub least-by_class : 3 ≤ (get_or ms line d).count
      → least_copy (take line ps) (drop line ps) ≡ first_among (is_copy (take line ps) (drop line ps)) (places_of (get_or ms line d).class 0 (take line ms))
  least-by_class h =
      let n = are.counts line d within in
      let size = are.size in
      let same : length (take line ps) ≡ length (take line ms) =
      length-take-le line ps (omega (arith, within)) ∙ sym (length-take-le line ms (omega (arith, size, within))) in
      cond-true (nat_le 3 (length (subtree (drop line ps)))) (least (is_copy (take line ps) (drop line ps)) 1 (length (take line ps))) None
      (le-leb 3 (length (subtree (drop line ps))) (omega (arith, n, h)))
      ∙ ap (least (is_copy (take line ps) (drop line ps)) 1) same
      ∙ first-of (is_copy (take line ps) (drop line ps)) (get_or ms line d).class 0 (take line ms) d of-class

-- ---- the same, as the code has lines

abbrev pub no_root : Root
no_root = record { depth = 0; count = 0; class = 0 }

pub slice-is : (ls : List Line) (k n : ℕ) → read_all (take (k + n - k) (drop k ls)) ≡ take n (drop k (read_all ls))
slice-is ls k n =
    let e : k + n - k ≡ n = omega arith in
    ap (λ i. read_all (take i (drop k ls))) e ∙ sym (take-map read n (drop k ls)) ∙ ap (take n) (sym (drop-read ls k))

module _ (ls : List Line) (ms : List Root) (place line : ℕ) (l : Line) (r : Root) (are : AreMarks (read_all ls) ms) (before : place < line) (within : line < length ls) where
  size-read : length (read_all ls) ≡ length ls
  size-read = length-map ls read

  line-in : line < length (read_all ls)
  line-in = omega (arith, size-read, within)

  q-at : read (get_or ls place l) ≡ get_or (read_all ls) place (read (get_or ls place l))
  q-at = read-at ls place (get_or ls place l) (get_or_default ls place l (get_or ls place l) (omega (arith, before, within)))

  p-at : read (get_or ls line l) ≡ get_or (read_all ls) line (read (get_or ls line l))
  p-at = read-at ls line (get_or ls line l) (get_or_default ls line l (get_or ls line l) within)

  place-in : place < length (read_all ls)
  place-in = omega (arith, size-read, before, within)

  pub line-fits : line + (get_or ms line r).count ≤ length ls
  line-fits =
      omega (arith, are.counts line r line-in, subtree-within (drop line (read_all ls)), length-drop line (read_all ls), size-read, within)

  pub is-no-copy : (is_call (read (get_or ls place l)) ≡ false) ⊎ (((get_or ms place r).count ≡ (get_or ms line r).count → ⊥) ⊎ (line - place < (get_or ms line r).count))
      → false ≡ is_copy (take line (read_all ls)) (drop line (read_all ls)) (place + 1)
  is-no-copy h =
      sym (not-copied (read_all ls) place line (read (get_or ls place l)) (read (get_or ls line l)) before line-in q-at p-at (get_or ms place r).count (get_or ms line r).count (are.counts place r place-in) (are.counts line r line-in) h)

  pub is-copy : is_call (read (get_or ls place l)) ≡ true → (get_or ms place r).count ≡ (get_or ms line r).count → (get_or ms line r).count ≤ line - place
      → same_pieces (map (moved_piece (record { from = place + 1; count = (get_or ms line r).count; to = line + 1 }) (get_or ls place l).depth (get_or ls line l).depth) (read_all (take (place + (get_or ms line r).count - place) (drop place ls))))
      (read_all (take (line + (get_or ms line r).count - line) (drop line ls)))
      ≡ is_copy (take line (read_all ls)) (drop line (read_all ls)) (place + 1)
  is-copy c e h =
      let n = (get_or ms line r).count in
      let m : Move = record { from = place + 1; count = n; to = line + 1 } in
      (λ i. same_pieces (map (moved_piece m (get_or ls place l).depth (get_or ls line l).depth) (slice-is ls place n i)) (slice-is ls line n i))
      ∙ sym (copied-same (read_all ls) place line (read (get_or ls place l)) (read (get_or ls line l)) before line-in q-at p-at (get_or ms place r).count n (are.counts place r place-in) (are.counts line r line-in) c e h)

-- ---- among the lines of a class

pub first-here : (holds : ℕ → Bool) (ns : List ℕ) (i : ℕ) → i < length ns → holds (get_or ns i 0 + 1) ≡ true → first_among holds (drop i ns) ≡ Some (get_or ns i 0 + 1)
first-here holds ns i h e =
    ap (first_among holds) (drop_more ns i 0 h)
    ∙ cond-true (holds (get_or ns i 0 + 1)) (Some (get_or ns i 0 + 1)) (first_among holds (drop (i + 1) ns)) e
