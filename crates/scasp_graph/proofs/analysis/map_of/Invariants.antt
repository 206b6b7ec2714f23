use Rattle.std.proofs.Common.{◌≡◌, ◌++◌, drop}
use Rattle.scasp_graph.specs.Inside.Places.{entries_from}
use Rattle.scasp_graph.proofs.analysis.map_of.Given as goal

abbrev pub invariant-loop-place : goal.invariant-loop-place
invariant-loop-place l =
    l.entries ++ entries_from l.members l.levels l.odd l.place (drop l.place l.pred-items) ≡ entries_from l.members l.levels l.odd 0 l.preds
