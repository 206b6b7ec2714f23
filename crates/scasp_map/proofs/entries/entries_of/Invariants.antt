use Rattle.std.proofs.Common.{◌≡◌, ◌≤◌, drop, length}
use Rattle.scasp_graph.specs.Map.{entry_of}
use Rattle.scasp_syntax.specs.declared.atom.Pred.{Pred}
use Rattle.scasp_map.specs.Entries.{entry_at}
use Rattle.scasp_map.proofs.entries.entries_of.Given as goal

abbrev pub invariant-loop-left : goal.invariant-loop-left
invariant-loop-left l =
    record {
      within : l.left ≤ length l.listed;
      entries : (p : Pred) → entry_at l.entries p ≡ entry_of (drop l.left l.listed) p;
    }

abbrev pub decreases-loop-left : goal.decreases-loop-left
decreases-loop-left l = l.left
