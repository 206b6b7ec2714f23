use Rattle.std.proofs.Common.{◌≡◌, ◌∙◌, None, Some, ap}
use Rattle.std.specs.Prelude.{option_map}
use Rattle.scasp_checker_rules.specs.PairLists.{pair_list}
use Rattle.scasp_cert.specs.Certificate.{certificate_of}
use Rattle.scasp_disjoint.specs.ByLines.{list_of_pair, told_both}
use Rattle.scasp_lines_walk.specs.Shown.TableView.{table_value, told_from}
use Rattle.scasp_disjoint.proofs.LineLemmas.{pair_found}
use Rattle.scasp_disjoint.proofs.by_lines.pair.Goals as goal

pub returns-in-None : goal.returns-in-None
returns-in-None c =
    ap (option_map (list_of_pair (certificate_of c.args.cert.now)))
    (pair_found c.args.program.now (certificate_of c.args.cert.now) c.args.first c.args.second (table_value c.in_ok-table.table) None c.in_ok-table.ensures c.in-None.ensures)

pub returns : goal.returns
returns c =
    let free = c.len-free.ensures in
    let given = c.as_slice.ensures in
    let both = c.in-Some.both in
    ap Some (c.in_ok-list-in-Some.ensures ∙ (λ i. pair_list (free i) (given i) (told_from both.0) (told_from both.1)))
    ∙ ap (option_map (list_of_pair (certificate_of c.args.cert.now)))
    (pair_found c.args.program.now (certificate_of c.args.cert.now) c.args.first c.args.second (table_value c.in_ok-table.table) (Some (told_both both)) c.in_ok-table.ensures c.in-Some.ensures)
