use Rattle.std.proofs.Common.{true, ap, arith, ◌≡◌, ◌∙◌, nat_eq, length}
use Rattle.std.proofs.lemmas.Bool.Decides.{nat_tests}
use Rattle.std.proofs.lemmas.Result.{IfOk-weaker}
use Rattle.scasp_syntax.specs.Tm.{items}
use Rattle.scasp_syntax.specs.Same.{same_atom}
use Rattle.scasp_checker_rules.specs.LineFaults.{is_instance}
use Rattle.scasp_checker_answer.proofs.rules.is_instance.Goals as goal

pub returns-in_ok-head-in-Some : goal.returns-in_ok-head-in-Some
returns-in_ok-head-in-Some c =
    let n : nat_eq (length (items c.args.terms.now)) c.args.clause.now.vars ≡ true = grind (arith, nat_tests) in
    let head = c.in_ok-head-in-Some.head in
    let is : same_atom head c.args.atom.now ≡ is_instance c.args.terms.now c.args.atom.now c.args.clause.now =
    rw (n, c.in-Some.is) (ap (λ h. same_atom h c.args.atom.now) c.in_ok-head-in-Some.ensures) in
    IfOk-weaker c.same_atom.result _ _ (λ answer e. e ∙ is) c.same_atom.ensures
