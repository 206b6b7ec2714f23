use Rattle.std.proofs.Common.{◌≡◌, drop, map}
use Rattle.std.specs.List.{flat_map}
use Rattle.scasp_cert.specs.Certificate.{check_of}
use Rattle.scasp_law_promise.specs.OwnRows.{are_normal, constraints_at}
use Rattle.scasp_law_promise.proofs.rows.see_checks.Given as goal

abbrev pub invariant-loop-check : goal.invariant-loop-check
invariant-loop-check l =
    are_normal (flat_map (λ k. constraints_at k.1) (map check_of l.check-items))
    ≡ are_normal (flat_map (λ k. constraints_at k.1) (map check_of (drop l.check-index l.check-items)))
