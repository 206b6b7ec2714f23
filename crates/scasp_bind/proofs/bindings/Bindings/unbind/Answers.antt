use Rattle.std.proofs.Common.{subst}
use Rattle.scasp_bind.specs.Kept.{Continues}
use Rattle.scasp_bind.proofs.DepthLemmas.{kept_by, on_ok, sound_by, unbound_sound}
use Rattle.scasp_bind.proofs.bindings.Bindings.unbind.Goals as goal

pub invariant_of-self : goal.invariant_of-self
invariant_of-self c =
    let s = c.self.inside.store in
    sound_by c.set_term.result s c.set_term.new.self c.set_term.ensures.changed c.set_term.ensures.unchanged
    (on_ok c.set_term.result c.set_term.ensures.variables (unbound_sound s c.set_term.new.self c.args.x c.self.invariant)) c.self.invariant

pub returns-clause-continues : goal.returns-clause-continues
returns-clause-continues c =
    subst (λ s. Continues s c.set_term.new.self) c.self.view_is (kept_by c.set_term.result c.self.inside.store c.set_term.new.self c.set_term.ensures.changed c.set_term.ensures.unchanged)
