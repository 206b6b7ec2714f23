use Rattle.std.proofs.Common.{◌≡◌, drop}
use Rattle.scasp_graph.specs.Map.{entry_of}
use Rattle.scasp_graph.proofs.map.entry_of.Given as goal

abbrev pub invariant-loop-entry : goal.invariant-loop-entry
invariant-loop-entry l = entry_of (drop l.entry-index l.entry-items) l.pred ≡ entry_of l.map l.pred
