use Rattle.std.proofs.Common.{◌≡◌, ◌≤◌, ℕ, List, length}
use Rattle.scasp_bound.specs.Bounds.{ReadsDown}
use Rattle.scasp_readings.specs.Readings.{reading}
use Rattle.scasp_loops.specs.Inside.Kept.{AllStay, changed_behind}
use Rattle.scasp_loops.specs.Inside.Topped.{AreTops}
use Rattle.scasp_loops.specs.Inside.Zipped.{literals_from}
use Rattle.scasp_loops.specs.declared.hints.Hint.{Hint}
use Rattle.scasp_search_rules.specs.Successors.Cases.{kept_literal}
use Rattle.scasp_loops.proofs.ending.end_each.Given as goal

abbrev pub invariant-literals : goal.invariant-literals
invariant-literals l = record {
  now : literals_from 0 l.lists.entries.now l.lists.marks.now ≡ changed_behind l.left (kept_literal (reading l.bound.now) l.universals) (literals_from 0 l.fn.lists.entries.now l.fn.lists.marks.now);
  stay : AllStay (literals_from 0 l.fn.lists.entries.now l.fn.lists.marks.now) (literals_from 0 l.lists.entries.now l.lists.marks.now);
  entries_before : l.lists.entries.before ≡ l.fn.lists.entries.before;
  marks_before : l.lists.marks.before ≡ l.fn.lists.marks.before;
  hints : l.lists.hints ≡ l.fn.lists.hints;
  tops : (n : ℕ) → (hs : List Hint) → ReadsDown n l.bound.now → AreTops n l.fn.lists.entries.now hs → AreTops n l.lists.entries.now hs;
  raised : l.lists.raised ≡ l.fn.lists.raised;
  fit : length l.lists.marks.now ≤ length l.lists.entries.now;
  within : l.left ≤ length l.lists.marks.now;
}

abbrev pub decreases-literals : goal.decreases-literals
decreases-literals l = l.left
