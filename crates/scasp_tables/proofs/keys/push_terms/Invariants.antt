use Rattle.std.proofs.Common.{◌≡◌, ◌+◌, ◌*◌, ◌++◌}
use Rattle.scasp_syntax.specs.Tm.{weight_s}
use Rattle.scasp_syntax.specs.View.{tms_of}
use Rattle.scasp_tables.specs.Inside.Keys.{keys_of}
use Rattle.scasp_tables.proofs.WalkLemmas.{behind, waiting}
use Rattle.scasp_tables.proofs.keys.push_terms.Given as goal

abbrev pub invariant-loop-x : goal.invariant-loop-x
invariant-loop-x l =
    l.key.items ++ (keys_of (tms_of l.rest) ++ behind l.unseen.items) ≡ l.fn.key.items ++ keys_of (tms_of l.terms)

abbrev pub decreases-loop-x : goal.decreases-loop-x
decreases-loop-x l = 2 * weight_s (tms_of l.rest) + waiting l.unseen.items
