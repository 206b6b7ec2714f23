use Rattle.std.proofs.Common.{◌≡◌, drop}
use Rattle.scasp_bind.specs.Kept.{Continues}
use Rattle.scasp_constraint_store.specs.Bound.{lowered_by}
use Rattle.scasp_constraint_store.proofs.lowering.lower_by.Given as goal

abbrev pub invariant-loop-binding : goal.invariant-loop-binding
invariant-loop-binding l = record {
  lowered : lowered_by (drop l.binding-index l.bindings) l.variables.variables ≡ lowered_by l.bindings l.fn.variables.variables;
  continues : Continues l.fn.variables l.variables;
}
