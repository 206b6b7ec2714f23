use Rattle.std.proofs.Common.{◌≡◌, drop, true}
use Rattle.std.specs.List.{list_any}
use Rattle.scasp_hint.specs.Finding.{overflows_in}
use Rattle.scasp_hint.specs.Satisfying.{sat}
use Rattle.scasp_search_rules.specs.Successors.Assumptions.{assume_all}
use Rattle.scasp_search_assuming.proofs.assumptions.assume_all.Given as goal

abbrev pub invariant-loop-constraint : goal.invariant-loop-constraint
invariant-loop-constraint g l = record {
  states : (assume_all sat (drop l.constraint-index l.constraints) (g.M.Situation.now l.at)).states ≡ (assume_all sat l.constraints (g.M.Situation.now l.fn.at)).states;
  overflow : list_any overflows_in (assume_all sat (drop l.constraint-index l.constraints) (g.M.Situation.now l.at)).asked ≡ true
      → list_any overflows_in (assume_all sat l.constraints (g.M.Situation.now l.fn.at)).asked ≡ true;
  points : g.M.Situation.points l.at ≡ g.M.Situation.points l.fn.at;
}
