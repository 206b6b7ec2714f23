use Rattle.std.proofs.Common.{◌≡◌, ◌<◌, ◌≤◌, List, false, length}
use Rattle.scasp_loops.specs.Inside.Open.{IsLast, open_among, open_in}
use Rattle.scasp_loops.specs.Inside.Zipped.{literals_from}
use Rattle.scasp_readings.specs.Readings.{reading}
use Rattle.scasp_search_rules.specs.Successors.Calls.{nearest}
use Rattle.scasp_syntax.specs.declared.atom.Lit.{Lit}
use Rattle.scasp_unify.specs.declared.bindings.Binding.{Binding}
use Rattle.scasp_loops.proofs.asking.is_behind_negation.Given as goal

abbrev pub invariant-above : goal.invariant-above
invariant-above l = record {
  now : (bs : List Binding) → (k : Lit) → IsLast bs k l.at (literals_from 0 l.lists.entries.now l.lists.marks.now)
      → nearest (reading bs) k l.passed (open_in l.left l.lists.entries.now l.lists.marks.now) ≡ nearest (reading bs) k false (open_among (literals_from 0 l.lists.entries.now l.lists.marks.now));
  within : l.left ≤ length l.lists.marks.now;
  above : l.at < l.left;
}

abbrev pub decreases-above : goal.decreases-above
decreases-above l = l.left
