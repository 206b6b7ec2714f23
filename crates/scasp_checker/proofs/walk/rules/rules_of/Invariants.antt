use Rattle.std.proofs.Common.{◌≡◌, ◌+◌, ◌≤◌, drop, length}
use Rattle.scasp_syntax.specs.Programs.{rules_from}
use Rattle.scasp_syntax.specs.declared.atom.Pred.{Pred}
use Rattle.scasp_checker.specs.Walk.Rules.{rules_at}
use Rattle.scasp_checker.proofs.walk.rules.rules_of.Given as goal

abbrev pub invariant-loop-left : goal.invariant-loop-left
invariant-loop-left l =
    record {
      within : l.left ≤ length l.clauses;
      rules : (p : Pred) → rules_at l.rules p ≡ rules_from (l.left + 1) (drop l.left l.clauses) p;
    }

abbrev pub decreases-loop-left : goal.decreases-loop-left
decreases-loop-left l = l.left
