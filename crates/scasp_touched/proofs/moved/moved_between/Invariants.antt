use Rattle.std.proofs.Common.{◌≡◌, ◌||◌, not, drop}
use Rattle.scasp_syntax.specs.declared.atom.Pred.{Pred}
use Rattle.scasp_touched.specs.Inside.{among}
use Rattle.scasp_touched.specs.Moved.{agree}
use Rattle.scasp_touched.proofs.moved.moved_between.Given as goal

abbrev pub invariant-loop-place : goal.invariant-loop-place
invariant-loop-place l = (p : Pred) → (among l.moved p || not (agree p (drop l.place l.first) (drop l.place l.second))) ≡ not (agree p l.first l.second)
