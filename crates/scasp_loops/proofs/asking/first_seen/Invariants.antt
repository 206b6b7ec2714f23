use Rattle.std.proofs.Common.{◌≡◌, ◌≤◌, drop, filter, length}
use Rattle.scasp_loops.specs.Inside.Asked.{is_seen}
use Rattle.scasp_loops.specs.Inside.Zipped.{literals_from}
use Rattle.scasp_search_state.specs.Words.{first_number}
use Rattle.scasp_loops.proofs.asking.first_seen.Given as goal

abbrev pub invariant-literals : goal.invariant-literals
invariant-literals l = record {
  found : l.found ≡ first_number (filter (is_seen l.bound.now l.cases l.lit) (drop l.left (literals_from 0 l.lists.entries.now l.lists.marks.now)));
  within : l.left ≤ length l.lists.marks.now;
}

abbrev pub decreases-literals : goal.decreases-literals
decreases-literals l = l.left
