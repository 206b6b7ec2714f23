use Rattle.std.proofs.lemmas.Result.{err_from_is_err_and}
use Rattle.scasp_cert.specs.Trees.{covering}
use Rattle.scasp_cert.specs.View.{covers_of}
use Rattle.scasp_checker_answer.proofs.Judging.{first_here}
use Rattle.scasp_checker.proofs.walk.lines.accept_negated.Goals as goal

pub returns-in_err-accept_literal : goal.returns-in_err-accept_literal
returns-in_err-accept_literal c =
    let p = err_from_is_err_and c.from_residual.result c.from_residual.ensures.1 in
    let h = rw (c.asks_negated.ensures c.args.atom.now (covering (covers_of c.args.covers.now)), c.new-terms.ensures) at c.in_err-accept_literal.ensures in
    rw (p.1, p.2) (first_here _ _ _ h)
