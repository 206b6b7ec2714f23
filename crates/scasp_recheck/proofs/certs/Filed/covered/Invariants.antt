use Rattle.std.proofs.Common.{◌≡◌, ◌++◌, drop, map}
use Rattle.scasp_cert.specs.Certificate.{check_of, checks_of}
use Rattle.scasp_recheck.proofs.certs.Filed.covered.Given as goal

abbrev pub invariant-loop-check : goal.invariant-loop-check
invariant-loop-check l =
    l.rules ++ map (λ k. k.0) (map check_of (drop l.check-index l.check-items)) ≡ map (λ k. k.0) (checks_of l.checks)
