use Rattle.std.proofs.lemmas.Result.{err_from_is_err_and}
use Rattle.scasp_cert.specs.Certificate.{certificate_of}
use Rattle.scasp_cert.specs.Trees.{listed}
use Rattle.scasp_cert.specs.View.{trees_of}
use Rattle.scasp_lines_places.specs.Places.View.{place_of}
use Rattle.scasp_lines_places.specs.Dues.DueView.{due_value}
use Rattle.scasp_checker.proofs.WalkLemmas.LineLemmas.{tests-first}
use Rattle.scasp_checker.proofs.walk.lines.accept_rule.Goals as goal

pub returns-in_err-accept_positive : goal.returns-in_err-accept_positive
returns-in_err-accept_positive c =
    let p = err_from_is_err_and c.from_residual.result c.from_residual.ensures.1 in
    rw (p.1, p.2)
    (tests-first c.args.tabled.now.common.program.now (certificate_of c.args.tabled.now.common.cert.now) c.args.at (place_of c.args.here.now) c.args.atom.now c.args.rule
    c.args.terms.now (listed (trees_of c.args.children.now)) _ (due_value c.args.due.now) c.in_err-accept_positive.ensures)
