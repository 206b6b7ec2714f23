use Rattle.std.proofs.Common.{◌≡◌, drop}
use Rattle.scasp_bind.specs.Kept.{Continues}
use Rattle.scasp_constraint_store.specs.Bound.{lowered_each}
use Rattle.scasp_constraint_store.proofs.lowering.lower_each.Given as goal

abbrev pub invariant-loop-x : goal.invariant-loop-x
invariant-loop-x l = record {
  lowered : lowered_each l.depth (drop l.x-index l.xs) l.variables.variables ≡ lowered_each l.depth l.xs l.fn.variables.variables;
  continues : Continues l.fn.variables l.variables;
}
