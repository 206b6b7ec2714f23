use Rattle.std.proofs.Common.{◌≡◌}
use Rattle.scasp_reader_terms.specs.Steps.{series}
use Rattle.scasp_reader.specs.Bodies.Bodies.{Counts, counted_item, body}
use Rattle.scasp_reader.proofs.bodies.bodies.body.Given as goal

abbrev pub invariant-loop-left : goal.invariant-loop-left
invariant-loop-left l = (series counted_item l.left l.items l.reader ≡ body l.fn.reader) × Counts l.count l.items

abbrev pub decreases-loop-left : goal.decreases-loop-left
decreases-loop-left l = l.left
