use Rattle.std.proofs.Common.{◌+◌, drop}
use Rattle.scasp_dual.proofs.FillLemmas.{Filled}
use Rattle.scasp_dual.proofs.planning.plans_of.Given as goal

abbrev pub invariant-loop-place : goal.invariant-loop-place
invariant-loop-place l = Filled l.program.clauses l.preds l.made.items (l.place + 1) (drop l.place l.clause-items)
