-- Predicates found by their places, and entries of a map seen from the last one on.
use Rattle.std.proofs.Common.{◌≡◌, ◌∙◌, ℕ, zero, suc, ◌+◌, ◌<◌, ◌≤◌, Bool, true, false, ◌||◌, ◌&&◌, not, cond, nat_lt, List, [], ◌∷◌, ◌++◌, length, drop, get_or, refl, ap, sym, subst, arith}
use Rattle.std.specs.List.{list_any}
use Rattle.std.proofs.lemmas.Bool.{cond-true, cond-false}
use Rattle.std.proofs.lemmas.Bool.Decides.{Decides-ltb}
use Rattle.std.proofs.lemmas.List.{at_drop_more}
use Rattle.std.proofs.lemmas.List.Folds.{list_any-append}
use Rattle.scasp_checker_rules.specs.Faults.{are_single}
use Rattle.scasp_graph.specs.Inside.Growing.{with_pred}
use Rattle.scasp_graph.specs.Numbering.{place_in}
use Rattle.scasp_graph.proofs.NumberingLemmas.{place-below}
use Rattle.scasp_syntax.specs.Same.{same_pred}
use Rattle.scasp_syntax.specs.declared.atom.Pred.{Pred}
use Rattle.scasp_syntax.specs.declared.predicate_map.PredMap.{PredMap}

-- a predicate that is not there has no place
place-missing : (ps : List Pred) (p : Pred) → list_any (same_pred p) ps ≡ false → length ps ≤ place_in ps p
place-missing [] p e = omega arith
place-missing (x ∷ xs) p e = by (same_pred p x) refl e (place-missing xs p)
  where
    by : (b : Bool) → same_pred p x ≡ b → (b || list_any (same_pred p) xs) ≡ false → (list_any (same_pred p) xs ≡ false → length xs ≤ place_in xs p) → length (x ∷ xs) ≤ place_in (x ∷ xs) p
    by true s k h = cc
    by false s k h = omega (arith, cond-false (same_pred p x) 0 (place_in xs p + 1) s, h k)

pub placed : (ps : List Pred) (p : Pred) (i n : ℕ) → i ≡ place_in ps p → n ≡ length ps → nat_lt i n ≡ list_any (same_pred p) ps
placed ps p i n e l = by (list_any (same_pred p) ps) refl
  where
    by : (b : Bool) → list_any (same_pred p) ps ≡ b → nat_lt i n ≡ b
    by true s = (Decides-ltb i n).1 (omega (arith, e, l, (place-below ps p s).0))
    by false s = (λ j. nat_lt (e j) (l j)) ∙ no (nat_lt (place_in ps p) (length ps)) refl
      where
        no : (c : Bool) → nat_lt (place_in ps p) (length ps) ≡ c → nat_lt (place_in ps p) (length ps) ≡ false
        no true h = absurd (omega (arith, (Decides-ltb (place_in ps p) (length ps)).0 h, place-missing ps p s))
        no false h = h

-- the predicates that were seen are those of the entries
abbrev pub AreSeen : List Pred → List PredMap → Type 0
AreSeen seen ms = (p : Pred) → list_any (same_pred p) seen ≡ list_any (λ n. same_pred p n.pred) ms

at-place : (ms : List PredMap) (i : ℕ) (m : PredMap) → i < length ms → m ≡ get_or ms i m → drop i ms ≡ m ∷ drop (i + 1) ms
at-place ms i m h e = at_drop_more (λ ns. ns) ms i m h ∙ ap (λ n. n ∷ drop (i + 1) ms) (sym e)

no-and : (a : Bool) → (a && false) ≡ false
no-and true = refl
no-and false = refl

-- entries of which two at the end are for one predicate
twice-dropped : (n : ℕ) (ms : List PredMap) → are_single (drop n ms) ≡ false → are_single ms ≡ false
twice-dropped zero ms e = e
twice-dropped (suc n) [] e = e
twice-dropped (suc n) (m ∷ ms) e =
    ap (λ b. not (list_any (λ k. same_pred m.pred k.pred) ms) && b) (twice-dropped n ms e) ∙ no-and (not (list_any (λ k. same_pred m.pred k.pred) ms))

twice : (seen : List Pred) (rest ms : List PredMap) (m : PredMap) (n : ℕ) → drop n ms ≡ m ∷ rest → list_any (same_pred m.pred) seen ≡ true
    → AreSeen seen rest → are_single ms ≡ false
twice seen rest ms m n a e k = twice-dropped n ms (ap are_single a ∙ ap (λ b. not b && are_single rest) (sym (k m.pred) ∙ e))

-- the entry at a place, where those behind the place are seen
pub twice_at : (seen : List Pred) (ms : List PredMap) (i left : ℕ) (m : PredMap) → i < length ms → m ≡ get_or ms i m → left ≡ i + 1 → list_any (same_pred m.pred) seen ≡ true
    → AreSeen seen (drop left ms) → are_single ms ≡ false
twice_at seen ms i left m h e l f k = twice seen (drop left ms) ms m i (at-place ms i m h e ∙ ap (λ j. m ∷ drop j ms) (sym l)) f k
