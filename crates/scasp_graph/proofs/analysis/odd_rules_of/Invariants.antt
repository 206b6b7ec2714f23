use Rattle.std.proofs.Common.{◌≡◌, ◌+◌, ◌++◌, drop}
use Rattle.scasp_graph.specs.Inside.Places.{odd_from}
use Rattle.scasp_graph.proofs.analysis.odd_rules_of.Given as goal

abbrev pub invariant-loop-place : goal.invariant-loop-place
invariant-loop-place l =
    l.numbers ++ odd_from l.preds l.members l.odd (l.place + 1) (drop l.place l.clause-items)
    ≡ odd_from l.preds l.members l.odd 1 l.program.clauses
