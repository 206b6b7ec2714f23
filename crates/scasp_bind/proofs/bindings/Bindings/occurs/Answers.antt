use Rattle.std.proofs.Common.{length, ap, sym, ◌∙◌, subst}
use Rattle.scasp_syntax.specs.View.{tm_of}
use Rattle.scasp_syntax.specs.WellFormed.{is_below}
use Rattle.scasp_unify.specs.Parts.{occurs}
use Rattle.scasp_bind.specs.Resolving.{Resolves, binding}
use Rattle.scasp_bind.proofs.SoundLemmas.{sound_now}
use Rattle.scasp_bind.proofs.DepthLemmas.{if_ok, resolves_once}
use Rattle.scasp_bind.proofs.bindings.Bindings.occurs.Goals as goal

pub occurs_resolved-requires : goal.occurs_resolved-requires
occurs_resolved-requires c =
    (sound_now c.self.inside.store c.self.invariant, ap (λ s. is_below (length s.variables) (tm_of c.args.term.now)) c.self.view_is ∙ c.requires)

pub returns : goal.returns
returns c =
    let s = c.self.inside.store in
    if_ok _ _ c.occurs_resolved.result
    (λ found e u r. e ∙ ap (occurs c.args.x) (resolves_once s (tm_of c.args.term.now) u c.self.invariant (subst (λ k. Resolves (binding k.variables) (tm_of c.args.term.now) u) (sym c.self.view_is) r)))
    c.occurs_resolved.ensures
