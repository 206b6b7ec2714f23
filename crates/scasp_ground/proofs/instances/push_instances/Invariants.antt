use Rattle.std.proofs.Common.{◌≡◌, ◌++◌, take, false}
use Rattle.std.specs.List.{list_any}
use Rattle.scasp_model.specs.Grounding.{choices}
use Rattle.scasp_syntax.specs.Tm.{items}
use Rattle.scasp_ground.proofs.InstanceLemmas.{kept_of, is_past}
use Rattle.scasp_ground.proofs.instances.push_instances.Given as goal

abbrev pub invariant-loop-number : goal.invariant-loop-number
invariant-loop-number l = record {
  kept : l.made ≡ l.fn.made ++ kept_of l.clause (take l.number (choices (items l.domain) l.clause.vars));
  past : list_any (is_past l.clause) (take l.number (choices (items l.domain) l.clause.vars)) ≡ false;
}
