use Rattle.std.proofs.Common.{◌∙◌, ap, map, reverse}
use Rattle.std.specs.List.{flat_map, list_all}
use Rattle.scasp_checker_rules.specs.Pairs.{all_pairs}
use Rattle.scasp_checker_rules.specs.Told.{all_told}
use Rattle.scasp_cert.specs.Certificate.{certificate_of}
use Rattle.scasp_fill.specs.Filling.Filled.{clashes_found, is_pair_known}
use Rattle.scasp_fill.specs.Filling.Inside.Clashing.{with_pairs}
use Rattle.scasp_fill.specs.declared.filling.clashes.Clashing.{Clashing}
use Rattle.scasp_lines.specs.Lines.{free_of, lines}
use Rattle.scasp_checker.specs.Partners.Partners.{group_of, pairs_of}
use Rattle.scasp_lines_walk.specs.Shown.TableView.{table_value, told_from}
use Rattle.scasp_fill.proofs.FillingLemmas.StepLemmas.{all-groups, if-clashes, if-known, none_yet}
use Rattle.scasp_fill.proofs.filling.clashes.clashes_found.Goals as goal

pub returns-clause-clashes : goal.returns-clause-clashes
returns-clause-clashes c =
    let cert = certificate_of c.args.cert.now in
    let groups = map group_of (reverse c.in_ok-partners.partners.items) in
    let free = c.len-free.ensures in
    let given = c.as_slice.ensures in
    let all =
    all-groups (free_of cert) cert.given groups (map told_from c.in_ok-sayings.sayings.items) (table_value c.in_ok-table.table) (lines c.args.program.now cert)
    c.in_ok-partners.ensures c.in_ok-sayings.ensures c.in_ok-table.ensures in
    if-clashes c.clashes_among.result (with_pairs c.len-free.result c.as_slice.result.now (flat_map pairs_of groups) none_yet) (clashes_found c.args.program.now cert)
    (ap (λ (k : Clashing). k.clashes) ((λ i. with_pairs (free i) (given i) (flat_map pairs_of groups) none_yet) ∙ all)) c.clashes_among.ensures

pub returns-clause-known : goal.returns-clause-known
returns-clause-known c =
    let cert = certificate_of c.args.cert.now in
    let groups = map group_of (reverse c.in_ok-partners.partners.items) in
    let free = c.len-free.ensures in
    let given = c.as_slice.ensures in
    let all =
    all-groups (free_of cert) cert.given groups (map told_from c.in_ok-sayings.sayings.items) (table_value c.in_ok-table.table) (lines c.args.program.now cert)
    c.in_ok-partners.ensures c.in_ok-sayings.ensures c.in_ok-table.ensures in
    if-known c.clashes_among.result (with_pairs c.len-free.result c.as_slice.result.now (flat_map pairs_of groups) none_yet)
    (list_all (is_pair_known (free_of cert) cert.given) (all_pairs (all_told (lines c.args.program.now cert))))
    (ap (λ (k : Clashing). k.known) ((λ i. with_pairs (free i) (given i) (flat_map pairs_of groups) none_yet) ∙ all)) c.clashes_among.ensures
