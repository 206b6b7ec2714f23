use Rattle.std.proofs.Common.{◌≡◌, map, reverse, vec_len}
use Rattle.std.specs.List.{flat_map}
use Rattle.scasp_checker_rules.specs.Pairs.{all_pairs, pair_faults}
use Rattle.scasp_cert.specs.Certificate.{certificate_of}
use Rattle.scasp_lines.specs.Lines.{free_of}
use Rattle.scasp_lines_walk.specs.Shown.Standings.{told_by}
use Rattle.scasp_lines_walk.specs.Shown.TableView.{table_value}
use Rattle.scasp_checker.specs.Pairs.Inside.Groups.{group_faults}
use Rattle.scasp_checker.specs.Partners.Partners.{group_of}
use Rattle.scasp_checker.proofs.pairs.pairs.accept_pairs.Given as goal

abbrev pub invariant-loop-partners : goal.invariant-loop-partners
invariant-loop-partners l =
    let c = l.against.cert.now in
    flat_map (group_faults (free_of (certificate_of c)) c.given c.clashes) (map group_of (reverse l.left.items))
    ≡ flat_map (pair_faults (free_of (certificate_of c)) c.given c.clashes) (all_pairs (flat_map told_by (table_value l.table)))

abbrev pub decreases-loop-partners : goal.decreases-loop-partners
decreases-loop-partners l = vec_len l.left
