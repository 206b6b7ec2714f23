use Rattle.std.proofs.Common.{◌≡◌, drop}
use Rattle.scasp_rows.specs.Elimination.{eliminated}
use Rattle.scasp_rows.proofs.elimination.eliminated.Given as goal

abbrev pub invariant-loop-x : goal.invariant-loop-x
invariant-loop-x l = eliminated (drop l.x-index l.variables) l.state ≡ eliminated l.variables l.initial.state
