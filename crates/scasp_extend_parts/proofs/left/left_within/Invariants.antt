use Rattle.std.proofs.Common.{◌≡◌, drop, take}
use Rattle.std.specs.List.{list_any, flat_map}
use Rattle.scasp_extend_levels.specs.Sorted.{IsSorted}
use Rattle.scasp_ground.specs.Bounded.{clause_overflows}
use Rattle.scasp_model.specs.Grounding.{instances}
use Rattle.scasp_model.specs.Residual.{residual}
use Rattle.scasp_syntax.specs.Tm.{items}
use Rattle.scasp_extend_parts.proofs.left.left_within.Given as goal

abbrev pub invariant-loop-clause : goal.invariant-loop-clause
invariant-loop-clause l = record {
  left : IsSorted l.map l.made (flat_map (λ c. residual l.told.trues l.told.falses (instances (items l.domain) c)) (take l.clause-index l.clause-items));
  past : list_any (clause_overflows (items l.domain)) (drop l.clause-index l.clause-items) ≡ list_any (clause_overflows (items l.domain)) l.program.clauses;
}
