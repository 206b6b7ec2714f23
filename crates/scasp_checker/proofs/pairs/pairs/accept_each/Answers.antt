use Rattle.std.proofs.Common.{◌+◌, List, drop, map, refl}
use Rattle.std.specs.Borrow.{Bor}
use Rattle.std.proofs.lemmas.Result.{err_from_is_err_and}
use Rattle.scasp_checker_rules.specs.Pairs.{pair_faults}
use Rattle.scasp_cert.specs.Certificate.{certificate_of}
use Rattle.scasp_lines.specs.Lines.{free_of}
use Rattle.scasp_lines_walk.specs.Shown.TableView.{told_from, told_of}
use Rattle.scasp_lines_walk.specs.declared.shown.table.Saying.{Saying}
use Rattle.scasp_syntax.proofs.Walks.{drop-at}
use Rattle.scasp_checker.specs.Pairs.Inside.Groups.{group_faults}
use Rattle.scasp_checker.proofs.PairsLemmas.FaultLemmas.{first-passed, first-refused}
use Rattle.scasp_checker.proofs.pairs.pairs.accept_each.Goals as goal

pub loop-second-preserved : goal.loop-second-preserved
loop-second-preserved c =
    let cert = c.args.against.now.cert.now in
    let first = told_of c.args.first.now in
    let ss = c.args.seconds.now in
    let i = c.loop-second.second-index in
    let s = c.second-item.result in
    first-passed (λ (xs : List (Bor (Bor Saying))). group_faults (free_of (certificate_of cert)) cert.given cert.clashes (first, map (λ x. told_from x.now) xs))
    (pair_faults (free_of (certificate_of cert)) cert.given cert.clashes (first, told_from s.now))
    (group_faults (free_of (certificate_of cert)) cert.given cert.clashes (first, map (λ x. told_from x.now) ss))
    (drop i ss) (drop (i + 1) ss) s (drop-at ss i s s c.loop-second-test.true c.second-item.is refl) refl c.loop-second.invariant c.in_ok-accept_pair.ensures

pub returns-in_err-accept_pair : goal.returns-in_err-accept_pair
returns-in_err-accept_pair c =
    let p = err_from_is_err_and c.from_residual.result c.from_residual.ensures.1 in
    let cert = c.args.against.now.cert.now in
    let first = told_of c.args.first.now in
    let ss = c.args.seconds.now in
    let i = c.loop-second.second-index in
    let s = c.second-item.result in
    rw (p.1, p.2)
    (first-refused (λ (xs : List (Bor (Bor Saying))). group_faults (free_of (certificate_of cert)) cert.given cert.clashes (first, map (λ x. told_from x.now) xs))
    (pair_faults (free_of (certificate_of cert)) cert.given cert.clashes (first, told_from s.now))
    (group_faults (free_of (certificate_of cert)) cert.given cert.clashes (first, map (λ x. told_from x.now) ss))
    (drop i ss) (drop (i + 1) ss) s (drop-at ss i s s c.loop-second-test.true c.second-item.is refl) refl c.loop-second.invariant _ c.in_err-accept_pair.ensures)
