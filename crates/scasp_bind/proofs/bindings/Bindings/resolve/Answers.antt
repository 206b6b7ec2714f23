use Rattle.std.proofs.Common.{length, ap, ◌∙◌, subst}
use Rattle.scasp_syntax.specs.View.{tm_of}
use Rattle.scasp_syntax.specs.WellFormed.{is_below}
use Rattle.scasp_bind.specs.Resolving.{Resolves, binding}
use Rattle.scasp_bind.proofs.SoundLemmas.{sound_now}
use Rattle.scasp_bind.proofs.DepthLemmas.{if_ok, resolves_now}
use Rattle.scasp_bind.proofs.bindings.Bindings.resolve.Goals as goal

pub resolved-requires : goal.resolved-requires
resolved-requires c =
    (sound_now c.self.inside.store c.self.invariant, ap (λ s. is_below (length s.variables) (tm_of c.args.term.now)) c.self.view_is ∙ c.requires)

pub returns : goal.returns
returns c =
    let s = c.self.inside.store in
    if_ok _ _ c.resolved.result
    (λ made e. subst (λ k. Resolves (binding k.variables) (tm_of c.args.term.now) (tm_of made)) c.self.view_is (resolves_now s (tm_of c.args.term.now) (tm_of made) c.self.invariant e))
    c.resolved.ensures
