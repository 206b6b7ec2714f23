use Rattle.std.proofs.Common.{sym, ap, ◌∙◌}
use Rattle.scasp_constraint_store.specs.Held.{Held}
use Rattle.scasp_constraint_store.proofs.UndoLemmas.{back}
use Rattle.scasp_constraint_store.proofs.store.Store.take_back_latest.Goals as goal

pub invariant_of-self : goal.invariant_of-self
invariant_of-self c =
    (back c.self.inside.variables c.undo.new.self c.self.inside.list.items c.restore.new.list.items c.self.inside.changes.items c.pop.new.self.items c.in-Some.change c.in-Some.ensures.items c.self.invariant
    c.undo.ensures.variables c.undo.ensures.changes c.undo.ensures.continues c.restore.ensures).1

pub returns-in-Some : goal.returns-in-Some
returns-in-Some c =
    ap (λ (s : Held). s.before) (sym c.self.view_is)
    ∙ (back c.self.inside.variables c.undo.new.self c.self.inside.list.items c.restore.new.list.items c.self.inside.changes.items c.pop.new.self.items c.in-Some.change c.in-Some.ensures.items c.self.invariant
    c.undo.ensures.variables c.undo.ensures.changes c.undo.ensures.continues c.restore.ensures).0
