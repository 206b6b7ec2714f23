use Rattle.std.proofs.Common.{arith, vec_capacity}
use Rattle.scasp_trail.proofs.UndoLemmas.{past_inserted, undoable_inserted, undoable_more}
use Rattle.scasp_trail.proofs.trailed.Trailed.insert.Goals as goal

pub invariant_of-self : goal.invariant_of-self
invariant_of-self g c = undoable_more _ _ _ _ _ _ c.insert.ensures.capacity (omega (arith, c.in_err-insert.ensures.len, c.self.inside.items.ok.0, c.insert.new.self.ok.0)) c.self.invariant

pub invariant_of-self-then-self-at : goal.invariant_of-self-then-self-at
invariant_of-self-then-self-at g c = undoable_more _ _ _ _ _ _ c.insert.ensures.capacity (omega (arith, c.in_ok-insert.ensures.len, c.self.inside.items.ok.0, c.insert.new.self.ok.0)) c.self.invariant

pub invariant_of-self-in_err-insert-2 : goal.invariant_of-self-in_err-insert-2
invariant_of-self-in_err-insert-2 g c = rw c.reserve.ensures.items (undoable_more _ _ _ _ _ _ c.insert-2.ensures.capacity (omega (arith, c.in_err-insert-2.ensures.len, c.self.inside.items.ok.0, c.insert-2.new.self.ok.0)) c.self.invariant)

pub invariant_of-self-2 : goal.invariant_of-self-2
invariant_of-self-2 g c = rw (c.push_reserved.ensures.items, c.reserve.ensures.items, c.in_ok-insert-2.ensures.items) (undoable_inserted (vec_capacity c.insert-2.new.self) c.self.inside.kept c.args.at c.self.inside.changes.items c.self.inside.items.items c.args.item (omega (arith, c.if-self-at.false)) (undoable_more _ _ _ _ _ _ c.insert-2.ensures.capacity (omega arith) c.self.invariant))

pub returns-clause-before : goal.returns-clause-before
returns-clause-before g c = rw (c.push_reserved.ensures.items, c.reserve.ensures.items, c.in_ok-insert-2.ensures.items, ← c.self.view_is) (past_inserted c.self.inside.kept c.args.at c.self.inside.changes.items c.self.inside.items.items c.args.item (omega (arith, c.if-self-at.false)) c.self.invariant.within)
