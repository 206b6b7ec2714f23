use Rattle.std.proofs.Common.{◌≡◌, true, length}
use Rattle.scasp_syntax.specs.Values.{under}
use Rattle.scasp_syntax.specs.View.{tm_of}
use Rattle.scasp_syntax.specs.WellFormed.{is_below}
use Rattle.scasp_bind.specs.Resolving.{binding}
use Rattle.scasp_bind.specs.Inside.Soundness.{most, resolver}
use Rattle.scasp_bind.proofs.ResolvingLemmas.{hops}
use Rattle.scasp_bind.proofs.walks.walk.Given as goal

abbrev pub invariant-loop-next : goal.invariant-loop-next
invariant-loop-next l = record {
  below : is_below (length l.store.variables) (tm_of l.found) ≡ true;
  same : under (resolver l.store) (tm_of l.found) ≡ under (resolver l.store) (tm_of l.term);
}

abbrev pub decreases-loop-next : goal.decreases-loop-next
decreases-loop-next l = hops (most (length l.store.changes)) (binding l.store.variables) (tm_of l.found)
