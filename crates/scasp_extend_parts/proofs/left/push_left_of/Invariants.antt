use Rattle.std.proofs.Common.{◌≡◌, ◌++◌, List, take, false}
use Rattle.std.specs.List.{list_any}
use Rattle.scasp_extend_levels.specs.Sorted.{IsSorted}
use Rattle.scasp_ground.proofs.InstanceLemmas.{is_past, kept_of}
use Rattle.scasp_model.specs.Grounding.{choices}
use Rattle.scasp_model.specs.Residual.{residual}
use Rattle.scasp_model.specs.declared.program.GroundClause.{GroundClause}
use Rattle.scasp_syntax.specs.Tm.{items}
use Rattle.scasp_syntax.specs.declared.predicate_map.PredMap.{PredMap}
use Rattle.scasp_extend_parts.proofs.left.push_left_of.Given as goal

abbrev pub invariant-loop-number : goal.invariant-loop-number
invariant-loop-number l = record {
  left : (map : List PredMap) (g : List GroundClause) → IsSorted map l.fn.made g
      → IsSorted map l.made (g ++ residual l.told.trues l.told.falses (kept_of l.clause (take l.number (choices (items l.domain) l.clause.vars))));
  past : list_any (is_past l.clause) (take l.number (choices (items l.domain) l.clause.vars)) ≡ false;
}
