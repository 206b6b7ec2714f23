use Rattle.std.proofs.Common.{◌≡◌, ◌≤◌, ◌++◌, length, drop, map}
use Rattle.scasp_syntax.specs.View.{tm_of}
use Rattle.scasp_bind.proofs.HeadLemmas.{left}
use Rattle.scasp_bind.proofs.resolving.push_back.Given as goal

abbrev pub invariant-loop-place : goal.invariant-loop-place
invariant-loop-place l = record {
  within : l.place ≤ length l.list;
  kept : left l.unseen.items ≡ map tm_of (drop l.place l.list) ++ left l.initial.unseen.items;
}

abbrev pub decreases-loop-place : goal.decreases-loop-place
decreases-loop-place l = l.place
