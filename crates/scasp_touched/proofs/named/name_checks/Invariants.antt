use Rattle.std.proofs.Common.{◌≡◌, drop, map}
use Rattle.std.specs.List.{flat_map}
use Rattle.scasp_cert.specs.Certificate.{check_of}
use Rattle.scasp_touched.specs.Inside.{with_named}
use Rattle.scasp_touched.specs.Named.{clauses_under, preds_under}
use Rattle.scasp_touched.proofs.named.name_checks.Given as goal

abbrev pub invariant-loop-check : goal.invariant-loop-check
invariant-loop-check l =
    with_named l.named (flat_map clauses_under (map check_of (drop l.check-index l.check-items))) (flat_map preds_under (map check_of (drop l.check-index l.check-items)))
    ≡ with_named l.fn.named (flat_map clauses_under (map check_of l.check-items)) (flat_map preds_under (map check_of l.check-items))
