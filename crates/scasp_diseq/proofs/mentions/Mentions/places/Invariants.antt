use Rattle.std.proofs.Common.{◌≡◌, ◌++◌, reverse, take}
use Rattle.scasp_diseq.specs.Inside.Chains.{Before, places_of, up_to}
use Rattle.scasp_diseq.proofs.mentions.Mentions.places.Given as goal

abbrev pub invariant-loop-next : goal.invariant-loop-next
invariant-loop-next l = record {
  before : Before l.x l.self l.next;
  places : places_of l.x l.self ≡ places_of l.x (take before.count l.self) ++ reverse l.made.items;
}

abbrev pub decreases-loop-next : goal.decreases-loop-next
decreases-loop-next l = up_to l.next
