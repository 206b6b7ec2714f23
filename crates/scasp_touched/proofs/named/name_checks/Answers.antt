use Rattle.std.proofs.Common.{◌≡◌, ◌∷◌, ◌<◌, [], length, map, refl, arith}
use Rattle.std.specs.List.{flat_map}
use Rattle.scasp_cert.specs.Certificate.{check_of}
use Rattle.scasp_cert.specs.View.{branch_of}
use Rattle.scasp_touched.specs.Inside.{with_named}
use Rattle.scasp_touched.specs.Named.{clauses_at, clauses_under, preds_at, preds_under}
use Rattle.scasp_touched.proofs.NamedLemmas.{named-next, named-then}
use Rattle.scasp_touched.proofs.named.name_checks.Goals as goal

pub loop-check-preserved : goal.loop-check-preserved
loop-check-preserved c =
    let items = c.as_slice-check-items.result.now in
    let below : c.loop-check.check-index < length items = omega (arith, c.loop-check-test.true) in
    let b = branch_of c.check-item.result.case in
    named-next check_of (flat_map clauses_under) (flat_map preds_under) clauses_under preds_under (λ y ys. refl) (λ y ys. refl)
    items c.loop-check.check-index c.check-item.result c.loop-check.named c.name_all.new.named
    (with_named c.args.named.now (flat_map clauses_under (map check_of items)) (flat_map preds_under (map check_of items)))
    below c.check-item.is c.loop-check.invariant
    (named-then c.loop-check.named c.put_clause.new.self c.name_all.new.named (c.check-item.result.clause ∷ []) (clauses_at b) [] (preds_at b)
    c.in_ok-put_clause.ensures c.in_ok-name_all.ensures)
