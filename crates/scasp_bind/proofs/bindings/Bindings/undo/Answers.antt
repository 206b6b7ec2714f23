use Rattle.std.proofs.Common.{subst, arith}
use Rattle.scasp_bind.specs.Kept.{Continues}
use Rattle.scasp_bind.proofs.SoundLemmas.{sound_earlier, undo_continues}
use Rattle.scasp_bind.proofs.bindings.Bindings.undo.Goals as goal

pub invariant_of-self : goal.invariant_of-self
invariant_of-self c =
    let s = c.self.inside.store in
    let back = undo_continues s c.take_back.new.self c.change_count-count.result (omega (arith, c.change_count.ensures, c.if-count-change_count.true)) c.take_back.ensures.changes c.take_back.ensures.variables in
    sound_earlier c.take_back.new.self s back c.self.invariant

pub returns-then-count-change_count-clause-continues : goal.returns-then-count-change_count-clause-continues
returns-then-count-change_count-clause-continues c =
    let s = c.self.inside.store in
    subst (λ s. Continues c.take_back.new.self s) c.self.view_is
    (undo_continues s c.take_back.new.self c.change_count-count.result (omega (arith, c.change_count.ensures, c.if-count-change_count.true)) c.take_back.ensures.changes c.take_back.ensures.variables)
