use Rattle.std.proofs.Common.{◌≡◌, ◌≤◌, ◌++◌, drop, length}
use Rattle.scasp_search_rules.specs.Successors.Regions.{regions}
use Rattle.scasp_search_terms.proofs.regions.push_regions.Given as goal

abbrev pub invariant-loop-place : goal.invariant-loop-place
invariant-loop-place l = (l.place ≤ length l.covers) × (l.list ≡ l.fn.list ++ regions (drop l.place l.covers))

abbrev pub decreases-loop-place : goal.decreases-loop-place
decreases-loop-place l = l.place
