use Rattle.std.proofs.Common.{◌≡◌, ◌≤◌, ℕ, List, length}
use Rattle.scasp_loops.specs.Inside.Hinted.{AreHints, Within, has_no_variable}
use Rattle.scasp_loops.specs.Inside.Topped.{AreTops}
use Rattle.scasp_loops.specs.Inside.Zipped.{literals_from}
use Rattle.scasp_loops.specs.declared.entry.Entry.{Entry}
use Rattle.scasp_loops.proofs.ending.note_each.Given as goal

abbrev pub invariant-literals : goal.invariant-literals
invariant-literals l = record {
  entries : l.lists.entries ≡ l.fn.lists.entries;
  marks : l.lists.marks ≡ l.fn.lists.marks;
  hints : AreHints (literals_from 0 l.fn.lists.entries.now l.fn.lists.marks.now) l.lists.hints.now;
  tops : (n : ℕ) → (es : List Entry) → AreTops n es l.fn.lists.hints.now → AreTops n es l.lists.hints.now;
  raised : l.lists.raised ≡ l.fn.lists.raised;
  before : l.lists.hints.before ≡ l.fn.lists.hints.before;
  len : length l.lists.hints.now ≡ length l.fn.lists.hints.now;
  ground : Within has_no_variable l.left l.above (literals_from 0 l.fn.lists.entries.now l.fn.lists.marks.now);
  within : l.left ≤ length l.fn.lists.marks.now;
}

abbrev pub decreases-literals : goal.decreases-literals
decreases-literals l = l.left
