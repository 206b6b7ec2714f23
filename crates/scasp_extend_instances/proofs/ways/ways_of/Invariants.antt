use Rattle.std.proofs.Common.{◌≡◌, ◌≤◌, false, drop, length, map}
use Rattle.scasp_lines_places.specs.Places.View.{opened_of}
use Rattle.scasp_syntax.specs.Tm.{items}
use Rattle.scasp_extend_instances.specs.Within.{overflows, ways_within}
use Rattle.scasp_extend_instances.specs.Values.{valued}
use Rattle.scasp_extend_instances.specs.View.{ways_of}
use Rattle.scasp_extend_instances.proofs.ways.ways_of.Given as goal

abbrev pub invariant-loop-left : goal.invariant-loop-left
invariant-loop-left l =
    record {
      within : l.left ≤ length l.entries.items;
      made : ways_of l.made ≡ ways_within (items l.domain) (map (λ b. opened_of b.now) (drop l.left l.entries.items)) (valued (items l.free));
      past : overflows (items l.domain) (map (λ b. opened_of b.now) (drop l.left l.entries.items)) (valued (items l.free)) ≡ false;
    }

abbrev pub decreases-loop-left : goal.decreases-loop-left
decreases-loop-left l = l.left
