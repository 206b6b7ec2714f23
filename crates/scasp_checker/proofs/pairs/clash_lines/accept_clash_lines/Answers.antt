use Rattle.std.proofs.Common.{◌∙◌, ◌+◌, ◌++◌, List, ap, drop, refl, sym}
use Rattle.std.specs.List.{flat_map}
use Rattle.std.proofs.lemmas.Result.{err_from_is_err_and}
use Rattle.scasp_checker_rules.specs.Pairs.{other_clash}
use Rattle.scasp_checker_rules.specs.Refusals.{wants}
use Rattle.scasp_checker_rules.specs.Told.{all_told}
use Rattle.scasp_checker_rules.specs.declared.refusal.Reason.TheVariants as reason
use Rattle.scasp_checker_rules.specs.declared.refusal.Refusal.{Refusal}
use Rattle.scasp_cert.specs.Certificate.{certificate_of}
use Rattle.scasp_checker_lines.specs.LineFaults.Whole.{whole}
use Rattle.scasp_lines_walk.specs.Shown.TableView.{table_value}
use Rattle.scasp_syntax.proofs.Walks.{drop-at}
use Rattle.scasp_checker.proofs.PairsLemmas.ClashLineLemmas.{clash-told}
use Rattle.scasp_checker.proofs.PairsLemmas.FaultLemmas.{first-passed, first-refused}
use Rattle.scasp_checker.proofs.pairs.clash_lines.accept_clash_lines.Goals as goal

pub loop-clash-preserved : goal.loop-clash-preserved
loop-clash-preserved c =
    let common = c.args.common.now in
    let faults = flat_map (other_clash (all_told (whole common).lines)) in
    let ks = c.as_slice-clash-items.result.now in
    let i = c.loop-clash.clash-index in
    let k = c.clash-item.result in
    let there = drop-at ks i k k c.loop-clash-test.true c.clash-item.is refl in
    let told =
    clash-told common.program.now (certificate_of common.cert.now) (table_value c.args.table.now) k c.min-at.result c.is_of_pair.result c.requires c.min-at.ensures c.is_of_pair.ensures in
    first-passed faults (wants c.min-at.result reason.Clash c.is_of_pair.result) (faults ks) (drop i ks) (drop (i + 1) ks) k there
    (ap (λ (rs : List Refusal). rs ++ faults (drop (i + 1) ks)) (sym told)) c.loop-clash.invariant c.in_ok-want.ensures

pub returns-in_err-want : goal.returns-in_err-want
returns-in_err-want c =
    let p = err_from_is_err_and c.from_residual.result c.from_residual.ensures.1 in
    let common = c.args.common.now in
    let faults = flat_map (other_clash (all_told (whole common).lines)) in
    let ks = c.as_slice-clash-items.result.now in
    let i = c.loop-clash.clash-index in
    let k = c.clash-item.result in
    let there = drop-at ks i k k c.loop-clash-test.true c.clash-item.is refl in
    let told =
    clash-told common.program.now (certificate_of common.cert.now) (table_value c.args.table.now) k c.min-at.result c.is_of_pair.result c.requires c.min-at.ensures c.is_of_pair.ensures in
    rw (p.1, p.2)
    (first-refused faults (wants c.min-at.result reason.Clash c.is_of_pair.result) (faults (certificate_of common.cert.now).clashes) (drop i ks) (drop (i + 1) ks) k there
    (ap (λ (rs : List Refusal). rs ++ faults (drop (i + 1) ks)) (sym told)) (c.loop-clash.invariant ∙ ap faults c.as_slice-clash-items.ensures) _ c.in_err-want.ensures)
