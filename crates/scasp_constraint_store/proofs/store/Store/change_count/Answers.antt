use Rattle.std.proofs.Common.{length, ap, arith}
use Rattle.scasp_constraint_store.specs.Held.{Held}
use Rattle.scasp_constraint_store.proofs.UndoLemmas.{changed-count}
use Rattle.scasp_constraint_store.proofs.store.Store.change_count.Goals as goal

pub returns : goal.returns
returns c =
    let s = c.self.inside in
    omega (arith, c.len.ensures, s.changes.ok.0, changed-count s.variables s.list.items s.changes.items, ap (λ (h : Held). length h.before) c.self.view_is)
