use Rattle.std.proofs.Common.{◌∙◌, ap}
use Rattle.std.specs.List.{flat_map}
use Rattle.scasp_cert.specs.Certificate.{certificate_of}
use Rattle.scasp_lines.specs.Lines.{free_of}
use Rattle.scasp_lines_walk.specs.Shown.Standings.{told_by}
use Rattle.scasp_lines_walk.specs.Shown.TableView.{table_value}
use Rattle.scasp_checker.specs.Pairs.Inside.Groups.{group_faults}
use Rattle.scasp_checker.specs.Partners.Partners.{grouped}
use Rattle.scasp_checker.proofs.PairsLemmas.GroupLemmas.{grouped-faults}
use Rattle.scasp_checker.proofs.pairs.pairs.accept_pairs.Goals as goal

pub loop-partners-init : goal.loop-partners-init
loop-partners-init c =
    let cert = c.args.against.now.cert.now in
    ap (flat_map (group_faults (free_of (certificate_of cert)) cert.given cert.clashes)) (c.in_ok-left.ensures ∙ ap grouped c.in_ok-sayings.ensures)
    ∙ grouped-faults (free_of (certificate_of cert)) cert.given cert.clashes (flat_map told_by (table_value c.args.table.now))
