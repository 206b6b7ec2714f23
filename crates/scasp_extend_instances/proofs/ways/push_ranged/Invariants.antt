use Rattle.std.proofs.Common.{◌≡◌, ◌++◌, drop, map}
use Rattle.scasp_lines.specs.Ways.{set_to}
use Rattle.scasp_syntax.specs.Tm.{items}
use Rattle.scasp_syntax.specs.View.{tms_of}
use Rattle.scasp_extend_instances.specs.View.{way_of, ways_of}
use Rattle.scasp_extend_instances.proofs.ways.push_ranged.Given as goal

abbrev pub invariant-loop-term : goal.invariant-loop-term
invariant-loop-term l =
    ways_of l.made ++ map (λ t. set_to (way_of l.way) l.x t) (items (tms_of (drop l.term-index l.domain)))
    ≡ ways_of l.fn.made ++ map (λ t. set_to (way_of l.way) l.x t) (items (tms_of l.domain))
