use Rattle.std.proofs.Common.{◌≡◌, ◌≤◌, drop, length}
use Rattle.scasp_search_rules.specs.Successors.Answers.{once}
use Rattle.scasp_search_ends.proofs.finished.given.once.Given as goal

abbrev pub invariant-loop-place : goal.invariant-loop-place
invariant-loop-place l = (l.place ≤ length l.list) × (l.made ≡ once (drop l.place l.list))

abbrev pub decreases-loop-place : goal.decreases-loop-place
decreases-loop-place l = l.place
