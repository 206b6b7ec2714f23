-- A list that passes the test, though some variable of a row does not count as a number, is not sorted.
use Rattle.std.specs.Prelude.{◌≡◌, true, false, not, List}
use Rattle.std.specs.List.{list_any}
use Rattle.std.proofs.Common.{sym, ◌∙◌}
use Rattle.std.proofs.lemmas.Bool.{true≢false, and_parts, not-true}
use Rattle.scasp_syntax.specs.Constraints.{Sat}
use Rattle.scasp_syntax.specs.declared.con.Con.{Con}
use Rattle.scasp_unify.specs.Resolver.{unifies}
use Rattle.scasp_unify.specs.Sorted.{Sorted, apart, typed, partly, is_typed}
use Rattle.scasp_unify.specs.TermFailures.{is_refuted}
use Rattle.scasp_unify.proofs.Members.{not-false}
use Rattle.scasp_unify.proofs.SortedLemmas.{sat-some}
use Rattle.scasp_hint.specs.Satisfying.{sat}
use Rattle.scasp_hint.proofs.SatisfyingLemmas.{sat-point, sat-sorted}
use Rattle.scasp_law_sorted.specs.Asking.{is_loose}

pub loose-unsorted : (cs : List Con) → is_loose cs ≡ true → Sorted cs → ⊥
loose-unsorted cs e h = by h
  where
    both : (sat cs ≡ true) × (not (is_typed cs) ≡ true)
    both = and_parts (sat cs) (not (is_typed cs)) e

    met : Sat cs
    met = (sat-sorted cs h).0 both.0

    by : Sorted cs → ⊥
    by (apart f) = true≢false (sym (not-false (unifies cs) (list_any (is_refuted cs) cs) ((sat-point cs).0 both.0).0).0 ∙ f)
    by (typed f) = true≢false (sym f ∙ not-true (is_typed cs) both.1)
    by (partly some i f none) = none (sat-some some cs i met)
