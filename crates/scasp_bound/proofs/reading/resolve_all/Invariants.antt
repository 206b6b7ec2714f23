use Rattle.std.proofs.Common.{◌≡◌, ◌+◌, ◌*◌}
use Rattle.scasp_syntax.specs.Tm.{weight_s}
use Rattle.scasp_syntax.specs.Values.{all_under}
use Rattle.scasp_syntax.specs.View.{tms_of}
use Rattle.scasp_bound.specs.Inside.Reading.{behind}
use Rattle.scasp_bound.proofs.WalkLemmas.{closed, onto, waiting}
use Rattle.scasp_bound.proofs.reading.resolve_all.Given as goal

abbrev pub invariant-lists : goal.invariant-lists
invariant-lists l =
    closed l.bindings l.outer.items (onto l.made (all_under (behind l.next l.bindings) (tms_of l.rest)))
    ≡ all_under (behind l.fn.from l.bindings) (tms_of l.terms)

abbrev pub decreases-lists : goal.decreases-lists
decreases-lists l = 2 * weight_s (all_under (behind l.next l.bindings) (tms_of l.rest)) + waiting l.bindings l.outer.items
