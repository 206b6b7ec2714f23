use Rattle.std.proofs.Common.{arith}
use Rattle.scasp_trail.proofs.UndoLemmas.{past_replaced}
use Rattle.scasp_trail.proofs.trailed.Trailed.set.Goals as goal

pub returns-clause-before : goal.returns-clause-before
returns-clause-before g c = rw (c.push_reserved.ensures.items, c.reserve.ensures.items, c.replace_at-old.ensures.items, ← c.self.view_is) (past_replaced c.self.inside.kept c.args.at c.self.inside.changes.items c.self.inside.items.items c.args.item c.replace_at-old.result (omega (arith, c.if-self-at.false)) c.replace_at-old.ensures.old)
