use Rattle.scasp_forall.proofs.CoverLemmas.{one_more}
use Rattle.scasp_forall.specs.Covers.{new_cover}
use Rattle.scasp_forall.proofs.scopes.Scopes.open.Goals as goal

pub returns-clause-now : goal.returns-clause-now
returns-clause-now c =
    rw (c.in_ok-push.ensures.now, ← c.self.view_is)
    (one_more c.self.inside.scopes.now c.in_ok-scope.scope (λ d. new_cover d c.args.opening c.args.case c.args.universals.now) c.in_ok-scope.ensures)
