use Rattle.std.proofs.Common.{◌≡◌, ◌+◌, ◌*◌}
use Rattle.scasp_syntax.specs.Tm.{weight_s}
use Rattle.scasp_syntax.specs.Values.{all_under}
use Rattle.scasp_syntax.specs.View.{tms_of}
use Rattle.scasp_syntax.specs.Walks.{onto}
use Rattle.scasp_syntax.proofs.RebuildLemmas.{closed, waiting}
use Rattle.scasp_syntax.proofs.rebuilding.rebuilt.Given as goal

abbrev pub invariant-loop-x : goal.invariant-loop-x
invariant-loop-x g l =
    let s = g.V.Values.gives l.values in
    closed s l.outer.items (onto l.made (all_under s (tms_of l.rest))) ≡ all_under s (tms_of l.terms)

abbrev pub decreases-loop-x : goal.decreases-loop-x
decreases-loop-x g l = 2 * weight_s (tms_of l.rest) + waiting l.outer.items
