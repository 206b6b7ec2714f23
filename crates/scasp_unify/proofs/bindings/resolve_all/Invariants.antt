use Rattle.std.proofs.Common.{◌≡◌, ◌+◌, ◌*◌}
use Rattle.scasp_syntax.specs.Tm.{weight_s}
use Rattle.scasp_syntax.specs.Values.{all_under}
use Rattle.scasp_syntax.specs.View.{tms_of}
use Rattle.scasp_syntax.specs.Walks.{onto}
use Rattle.scasp_unify.specs.Solving.{sub_of}
use Rattle.scasp_unify.proofs.ResolveLemmas.{closed, waiting}
use Rattle.scasp_unify.proofs.bindings.resolve_all.Given as goal

abbrev pub invariant-lists : goal.invariant-lists
invariant-lists l =
    closed l.outer.items (onto l.made (all_under (sub_of l.known) (tms_of l.rest))) ≡ all_under (sub_of l.fn.bindings) (tms_of l.fn.terms)

abbrev pub decreases-lists : goal.decreases-lists
decreases-lists l = 2 * weight_s (all_under (sub_of l.known) (tms_of l.rest)) + waiting l.outer.items
