use Rattle.std.proofs.Common.{◌≡◌, ◌||◌, ◌++◌, drop}
use Rattle.std.specs.List.{list_any, flat_map}
use Rattle.scasp_model.specs.Grounding.{instances}
use Rattle.scasp_syntax.specs.Tm.{items}
use Rattle.scasp_ground.specs.Bounded.{clause_overflows}
use Rattle.scasp_ground.proofs.grounding.ground.Given as goal

abbrev pub invariant-loop-clause : goal.invariant-loop-clause
invariant-loop-clause l = record {
  made : l.made ++ flat_map (instances (items l.domain)) (drop l.clause-index l.clause-items) ≡ flat_map (instances (items l.domain)) l.program.clauses;
  past : list_any (clause_overflows (items l.domain)) (drop l.clause-index l.clause-items) ≡ list_any (clause_overflows (items l.domain)) l.program.clauses;
}
