use Rattle.std.proofs.Common.{refl, subst}
use Rattle.scasp_syntax.specs.Tm.{Tm}
use Rattle.scasp_syntax.specs.Values.{under}
use Rattle.scasp_bind.specs.Resolving.{Resolves, binding}
use Rattle.scasp_bind.specs.Inside.Soundness.{resolver}
use Rattle.scasp_bind.proofs.DepthLemmas.{resolves_now}
use Rattle.scasp_bind.proofs.bindings.Bindings.have_no_cycle.Goals as goal

pub returns : goal.returns
returns c = λ t.
    let s = c.self.inside.store in
    subst (λ k. (u : Tm) × Resolves (binding k.variables) t u) c.self.view_is (under (resolver s) t, resolves_now s t (under (resolver s) t) c.self.invariant refl)
