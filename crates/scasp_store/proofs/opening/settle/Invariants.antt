use Rattle.std.proofs.Common.{◌-◌, List, length}
use Rattle.scasp_store.specs.Inside.Open.{GoodOf, SameMarks}
use Rattle.scasp_unify.specs.declared.bindings.Binding.{Binding}
use Rattle.scasp_store.proofs.opening.settle.Given as goal

abbrev pub invariant-loop-at : goal.invariant-loop-at
invariant-loop-at l = record {
  good : (bs : List Binding) → GoodOf bs l.given l.fn.rest → GoodOf bs l.given l.rest;
  marks : SameMarks l.fn.rest l.rest;
}

abbrev pub decreases-loop-at : goal.decreases-loop-at
decreases-loop-at l = length l.rest.places.now - l.at
