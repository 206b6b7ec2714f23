use Rattle.std.proofs.Common.{◌≡◌, ◌≤◌, [], drop, filter, length, map, reverse}
use Rattle.scasp_loops.specs.Inside.Asked.{is_opposed, standing}
use Rattle.scasp_loops.specs.Inside.Zipped.{literals_from}
use Rattle.scasp_search_rules.specs.Successors.Calls.{differing}
use Rattle.scasp_loops.proofs.opposing.all_differing.Given as goal

abbrev pub invariant-literals : goal.invariant-literals
invariant-literals l = record {
  made : map (differing l.call.lit.now) (filter (is_opposed (standing l.variables.now l.call.bound.now.now []) l.call.first l.call.lit.now) (drop l.left (literals_from 0 l.lists.entries.now l.lists.marks.now))) ≡ reverse l.made;
  within : l.left ≤ length l.lists.marks.now;
}

abbrev pub decreases-literals : goal.decreases-literals
decreases-literals l = l.left
