use Rattle.std.proofs.Common.{◌≡◌, length, Some, option_copied, option_map, sym, ap, ◌∙◌}
use Rattle.scasp_syntax.specs.View.{tm_of}
use Rattle.scasp_bind.specs.Resolving.{applied, binding}
use Rattle.scasp_bind.specs.Inside.Soundness.{bound_to, most}
use Rattle.scasp_bind.proofs.ResolvingLemmas.{all_free, bound_below, hops_fall, same_further}
use Rattle.scasp_bind.proofs.walks.walk.Goals as goal

pub loop-next-smaller : goal.loop-next-smaller
loop-next-smaller c =
    let store = c.args.store.now in
    let b = binding store.variables in
    let n = most (length store.changes) in
    hops_fall n b (tm_of c.loop-next.found.now) (tm_of c.in-Some.next.now) (all_free b (applied n b) c.requires.0.ends (tm_of c.loop-next.found.now))
    (sym c.bound.ensures ∙ ap (λ o. option_map tm_of (option_copied o)) c.in-Some.is)

pub loop-next-preserved : goal.loop-next-preserved
loop-next-preserved c =
    let store = c.args.store.now in
    let b = binding store.variables in
    let n = most (length store.changes) in
    let t = tm_of c.loop-next.found.now in
    let u = tm_of c.in-Some.next.now in
    let step : bound_to b t ≡ Some u = sym c.bound.ensures ∙ ap (λ o. option_map tm_of (option_copied o)) c.in-Some.is in
    record {
      below = bound_below (length store.variables) b t u c.requires.0.below step;
      same = same_further n b t u (all_free b (applied n b) c.requires.0.ends t) step ∙ c.loop-next.invariant.same;
    }
