use Rattle.std.proofs.Common.{◌≡◌, drop, map}
use Rattle.scasp_lines.specs.Said.{are_in}
use Rattle.scasp_syntax.specs.Tm.{items}
use Rattle.scasp_syntax.specs.Values.{under}
use Rattle.scasp_syntax.specs.View.{tms_of}
use Rattle.scasp_extend_instances.specs.View.{way_of}
use Rattle.scasp_extend_parts.proofs.literals.are_in.Given as goal

abbrev pub invariant-loop-term : goal.invariant-loop-term
invariant-loop-term l =
    are_in (items l.domain) (map (under (way_of l.way)) (items (tms_of (drop l.term-index l.term-items))))
    ≡ are_in (items l.domain) (map (under (way_of l.way)) (items l.terms))
