use Rattle.std.proofs.Common.{◌∙◌, ◌-◌, ap, arith, refl, sym}
use Rattle.std.specs.List.{list_any}
use Rattle.scasp_checker_rules.specs.Faults.{are_single}
use Rattle.scasp_syntax.specs.Same.{same_pred}
use Rattle.scasp_syntax.specs.declared.predicate_map.PredMap.{PredMap}
use Rattle.scasp_checker_answer.proofs.MapLemmas.{twice_at}
use Rattle.scasp_checker_answer.proofs.map.are_single.Goals as goal

pub returns-then-has_pred : goal.returns-then-has_pred
returns-then-has_pred c =
    sym
    (ap are_single (sym c.as_slice-entries.ensures)
    ∙ twice_at c.entries.later c.as_slice-entries.result.now (c.entries.left - 1) c.entries.left c.index-entries-left.result
    (omega (arith, c.entries-test.true, c.entries.invariant.within)) c.index-entries-left.is (omega (arith, c.entries-test.true))
    (ap (λ (m : PredMap). list_any (same_pred m.pred) c.entries.later) c.index-entries-left.is ∙ sym c.has_pred.ensures ∙ c.if-has_pred.true) c.entries.invariant.seen)
