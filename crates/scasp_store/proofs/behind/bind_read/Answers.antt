use Rattle.std.proofs.Common.{sym, subst}
use Rattle.scasp_law_parts.specs.Bound.{Triangular}
use Rattle.scasp_law_parts.proofs.TriangularLemmas.{more-triangular}
use Rattle.scasp_store.proofs.behind.bind_read.Goals as goal

pub returns-in_ok-renew-in-Nothing-clause-known : goal.returns-in_ok-renew-in-Nothing-clause-known
returns-in_ok-renew-in-Nothing-clause-known c = λ cs l n h. c.in_ok-renew-in-Nothing.ensures.good cs l (subst Triangular (sym c.in_ok-push.ensures.now) (more-triangular c.args.bound.now.now c.args.binding h.triangular n.0 n.1))
