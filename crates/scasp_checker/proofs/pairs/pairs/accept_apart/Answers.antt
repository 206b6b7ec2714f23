use Rattle.std.proofs.lemmas.Result.{err_from_is_err_and}
use Rattle.scasp_cert.specs.Certificate.{certificate_of}
use Rattle.scasp_checker_lines.specs.LineFaults.Whole.{whole}
use Rattle.scasp_lines_walk.specs.Shown.TableView.{table_value}
use Rattle.scasp_checker.proofs.PairsLemmas.FaultLemmas.{pairs-passed, pairs-refused}
use Rattle.scasp_checker.proofs.pairs.pairs.accept_apart.Goals as goal

pub returns-in_err-accept_pairs : goal.returns-in_err-accept_pairs
returns-in_err-accept_pairs c =
    let common = c.args.common.now in
    let p = err_from_is_err_and c.from_residual-in_err-accept_pairs.result c.from_residual-in_err-accept_pairs.ensures.1 in
    rw (p.1, p.2) (pairs-refused (certificate_of common.cert.now) (table_value c.args.table.now) (whole common).lines c.requires _ c.in_err-accept_pairs.ensures)

pub returns : goal.returns
returns c =
    let common = c.args.common.now in
    pairs-passed (certificate_of common.cert.now) (table_value c.args.table.now) (whole common).lines c.requires c.accept_clash_lines.result
    c.in_ok-accept_pairs.ensures c.accept_clash_lines.ensures
