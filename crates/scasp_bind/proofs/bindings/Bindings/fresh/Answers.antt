use Rattle.std.proofs.Common.{None, refl, subst}
use Rattle.scasp_bind.specs.Kept.{Continues}
use Rattle.scasp_bind.specs.declared.variable.Variable.{Variable}
use Rattle.scasp_bind.proofs.DepthLemmas.{fresh_sound, kept_by, on_ok, sound_by}
use Rattle.scasp_bind.proofs.bindings.Bindings.fresh.Goals as goal

pub invariant_of-self : goal.invariant_of-self
invariant_of-self c =
    let s = c.self.inside.store in
    let v : Variable = record { sort = c.args.sort; depth = c.args.depth; term = None } in
    sound_by c.make.result s c.make.new.self c.make.ensures.changed c.make.ensures.unchanged
    (on_ok c.make.result c.make.ensures.variables (fresh_sound s c.make.new.self v refl c.self.invariant)) c.self.invariant

pub returns-clause-continues : goal.returns-clause-continues
returns-clause-continues c =
    subst (λ s. Continues s c.make.new.self) c.self.view_is (kept_by c.make.result c.self.inside.store c.make.new.self c.make.ensures.changed c.make.ensures.unchanged)
