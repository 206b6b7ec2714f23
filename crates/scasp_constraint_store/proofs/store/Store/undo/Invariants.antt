use Rattle.std.proofs.Common.{◌≡◌, length}
use Rattle.scasp_constraint_store.specs.Held.{times_at}
use Rattle.scasp_constraint_store.proofs.store.Store.undo.Given as goal

abbrev pub invariant-loop-self : goal.invariant-loop-self
invariant-loop-self l = times_at l.count l.self ≡ times_at l.count l.fn.self

abbrev pub decreases-loop-self : goal.decreases-loop-self
decreases-loop-self l = length l.self.before
