use Rattle.std.proofs.Common.{◌≡◌, ℕ, ◌≤◌, drop, length}
use Rattle.scasp_checker_rules.specs.Pairs.{clash_of}
use Rattle.scasp_checker.specs.Pairs.Inside.Clashes.{clash_in}
use Rattle.scasp_checker.proofs.pairs.clashes.first_clashes.Given as goal

abbrev pub invariant-loop-place : goal.invariant-loop-place
invariant-loop-place l =
    record {
      within : l.place ≤ length l.lines;
      tells : (i j : ℕ) → clash_in l.firsts i j ≡ clash_of i j (drop l.place l.lines);
    }

abbrev pub decreases-loop-place : goal.decreases-loop-place
decreases-loop-place l = l.place
