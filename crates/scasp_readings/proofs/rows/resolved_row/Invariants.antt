use Rattle.std.proofs.Common.{◌≡◌, drop}
use Rattle.scasp_unify.specs.ResolvedRows.{replaced_each, resolved_row}
use Rattle.scasp_unify.specs.Solving.{sub_of}
use Rattle.scasp_readings.proofs.rows.resolved_row.Given as goal

abbrev pub invariant-loop-term : goal.invariant-loop-term
invariant-loop-term l = resolved_row (sub_of l.bound.now) l.row ≡ replaced_each (sub_of l.bound.now) (drop l.term-index l.term-items) l.resolved
