use Rattle.std.proofs.Common.{arith}
use Rattle.scasp_trail.proofs.UndoLemmas.{undoable_more}
use Rattle.scasp_trail.proofs.trailed.Trailed.push.Goals as goal

pub invariant_of-self : goal.invariant_of-self
invariant_of-self g c = undoable_more _ _ _ _ _ _ c.push.ensures.capacity (omega (arith, c.push.ensures.lower_bound, c.self.inside.items.ok.0, c.push.new.self.ok.0)) c.self.invariant

pub invariant_of-self-2 : goal.invariant_of-self-2
invariant_of-self-2 g c = undoable_more _ _ _ _ _ _ c.push.ensures.capacity (omega (arith, c.push.ensures.lower_bound, c.self.inside.items.ok.0, c.push.new.self.ok.0)) c.self.invariant
