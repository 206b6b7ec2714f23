-- A line more of the numbered lines.
use Rattle.std.proofs.Common.{◌≡◌, ◌∙◌, ℕ, zero, suc, ◌+◌, ◌-◌, ◌<◌, ◌≤◌, List, [], ◌∷◌, ◌++◌, length, get_or, take, drop, Option, None, Some, refl, sym, ap, arith, append_assoc}
use Rattle.std.specs.Prelude.{flat_map}
use Rattle.std.proofs.lemmas.List.{drop_all, drop_more, get_or_default, take_more}
use Rattle.scasp_copies.specs.Copies.{deeper_than, subtree}
use Rattle.scasp_copies.specs.Pieces.{Piece, piece_text}
use Rattle.scasp_copies.specs.Writing.{copy_line}
use Rattle.scasp_print_shared.specs.Shared.{count_below, least_copy, printed_line, shared_below}

abbrev pub text_of : List Piece → List ℕ
text_of ps = flat_map piece_text ps

-- the text of the lines from number k on
abbrev pub text_from : ℕ → ℕ → List Piece → List ℕ
text_from left_out k ps = text_of (shared_below left_out (take k ps) (drop k ps))

module _ (ps : List Piece) (k : ℕ) (p : Piece) (h : k < length ps) (at : p ≡ get_or ps k p) where
  pub rest-is : drop k ps ≡ p ∷ drop (k + 1) ps
  rest-is = drop_more ps k p h ∙ ap (λ x. x ∷ drop (k + 1) ps) (sym at)

  told-is : take (k + 1) ps ≡ take k ps ++ p ∷ []
  told-is = take_more ps k p h ∙ ap (λ x. take k ps ++ x ∷ []) (sym at)

  -- a line below a copy
  pub left-out : (left : ℕ) → text_from (suc left) k ps ≡ text_from left (k + 1) ps
  left-out left =
      ap (λ z. text_of (shared_below (suc left) (take k ps) z)) rest-is
      ∙ ap (λ z. text_of (shared_below left z (drop (k + 1) ps))) (sym told-is)

  -- a line with its copy, or without one
  pub next-line : (o : Option ℕ) → least_copy (take k ps) (drop k ps) ≡ o
      → text_from 0 k ps ≡ piece_text (printed_line p o) ++ text_from (count_below p (drop (k + 1) ps) o) (k + 1) ps
  next-line o e =
      let e2 : least_copy (take k ps) (p ∷ drop (k + 1) ps) ≡ o = ap (least_copy (take k ps)) (sym rest-is) ∙ e in
      ap (λ z. text_of (shared_below 0 (take k ps) z)) rest-is
      ∙ ap (λ c. piece_text (printed_line p c) ++ text_of (shared_below (count_below p (drop (k + 1) ps) c) (take k ps ++ p ∷ []) (drop (k + 1) ps))) e2
      ∙ ap (λ z. piece_text (printed_line p o) ++ text_of (shared_below (count_below p (drop (k + 1) ps) o) z (drop (k + 1) ps))) (sym told-is)

  pub below-count : (count : ℕ) → count ≡ length (subtree (drop k ps)) → length (deeper_than p.depth (drop (k + 1) ps)) ≡ count - 1
  below-count count c = let c2 = ap (λ z. length (subtree z)) rest-is in omega (arith, c, c2)

-- a line is written without a copy
pub no-copy : (out new : List ℕ) (ps : List Piece) (k : ℕ) (p : Piece) → k < length ps → p ≡ get_or ps k p → least_copy (take k ps) (drop k ps) ≡ None
    → new ≡ out ++ piece_text p → new ++ text_from 0 (k + 1) ps ≡ out ++ text_from 0 k ps
no-copy out new ps k p h at e n =
    ap (λ z. z ++ text_from 0 (k + 1) ps) n ∙ append_assoc out (piece_text p) (text_from 0 (k + 1) ps)
    ∙ ap (λ z. out ++ z) (sym (next-line ps k p h at None e))

-- a copy is written for the subtree of a line
pub a-copy : (out new : List ℕ) (ps : List Piece) (k : ℕ) (p : Piece) (n count : ℕ) → k < length ps → p ≡ get_or ps k p
    → least_copy (take k ps) (drop k ps) ≡ Some n → count ≡ length (subtree (drop k ps)) → new ≡ out ++ piece_text (copy_line p.depth n)
    → new ++ text_from (count - 1) (k + 1) ps ≡ out ++ text_from 0 k ps
a-copy out new ps k p n count h at e c w =
    ap (λ z. z ++ text_from (count - 1) (k + 1) ps) w
    ∙ append_assoc out (piece_text (copy_line p.depth n)) (text_from (count - 1) (k + 1) ps)
    ∙ ap (λ i. out ++ (piece_text (copy_line p.depth n) ++ text_from i (k + 1) ps)) (sym (below-count ps k p h at count c))
    ∙ ap (λ z. out ++ z) (sym (next-line ps k p h at (Some n) e))

blank : Piece
blank = record { depth = 0; words = [] }

-- a line below a copy is left out
pub below-copy : (ps : List Piece) (k left now : ℕ) → k < length ps → 0 < left → now ≡ left - 1 → text_from left k ps ≡ text_from now (k + 1) ps
below-copy ps k left now h g e =
    let p = get_or ps k blank in
    let n : left ≡ suc now = omega (arith, g, e) in
    ap (λ i. text_from i k ps) n ∙ left-out ps k p h (get_or_default ps k blank p h) now

pub at-end : (ps : List Piece) (k left : ℕ) → length ps ≤ k → text_from left k ps ≡ []
at-end ps k left h = ap (λ z. text_of (shared_below left (take k ps) z)) (drop_all k ps h) ∙ none left
  where
    none : (n : ℕ) → text_of (shared_below n (take k ps) []) ≡ []
    none zero = refl
    none (suc n) = refl
