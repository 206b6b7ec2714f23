use Rattle.std.proofs.lemmas.Result.{err_from_is_err_and}
use Rattle.scasp_cert.specs.Trees.{no_tree}
use Rattle.scasp_checker_answer.proofs.Judging.{first_here}
use Rattle.scasp_checker_lines.proofs.node_faults.literals.accept_positive.Goals as goal

pub returns-in_err-accept_literal : goal.returns-in_err-accept_literal
returns-in_err-accept_literal c =
    let p = err_from_is_err_and c.from_residual.result c.from_residual.ensures.1 in
    let h = rw (c.asks_positive.ensures c.args.atom.now c.args.rule c.args.terms.now no_tree) at c.in_err-accept_literal.ensures in
    rw (p.1, p.2) (first_here _ _ _ (first_here _ _ _ h))
