use Rattle.std.proofs.Common.{true, sym, subst}
use Rattle.scasp_law_parts.specs.Bound.{Triangular}
use Rattle.scasp_store.specs.Inside.Open.{KnownOf}
use Rattle.scasp_store.proofs.BehindLemmas.{fewer_triangular}
use Rattle.scasp_store.proofs.behind.end_case.Goals as goal

pub returns-in_ok-renew-in-Contrary-clause-known : goal.returns-in_ok-renew-in-Contrary-clause-known
returns-in_ok-renew-in-Contrary-clause-known c = λ cs l h.
    let contrary = subst (λ k. KnownOf true k c.args.bound.now.now cs c.args.rest.now) c.in-Contrary.is h in
    c.in_ok-renew-in-Contrary.ensures.good cs l (subst Triangular (sym c.in_ok-end_case-in-Contrary.ensures.now) (fewer_triangular c.args.bound.now.now c.args.taken.universals.now c.args.taken.but.now contrary.triangular))
