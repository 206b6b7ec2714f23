use Rattle.std.proofs.Common.{◌≡◌, ◌++◌, true, IfSome, sym, subst}
use Rattle.scasp_hint.specs.Satisfying.{sat}
use Rattle.scasp_law_parts.specs.Bound.{equations}
use Rattle.scasp_store.specs.Held.{list_with}
use Rattle.scasp_store.specs.Inside.Open.{KnownOf}
use Rattle.scasp_store.proofs.store.Store.answer.Goals as goal

pub returns-clause-answer : goal.returns-clause-answer
returns-clause-answer c =
    let s = c.self.inside in
    let known = subst (λ b. KnownOf b s.known s.bound.now s.given.now s.rest) c.if-not-self.false c.self.invariant.now in
    let mine = subst (λ gs. KnownOf true s.known s.bound.now gs s.rest) (sym c.as_slice-given.ensures) known in
    let found = c.in_ok-found.ensures.answer mine in
    let given = subst (λ gs. IfSome c.in_ok-found.found (λ answer. answer ≡ sat (equations s.bound.now ++ (gs ++ c.args.more.now)))) c.as_slice-given.ensures found in
    subst (λ h. IfSome c.in_ok-found.found (λ answer. answer ≡ sat (list_with h c.args.more.now))) c.self.view_is given
