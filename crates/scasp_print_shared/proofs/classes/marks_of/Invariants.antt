use Rattle.scasp_print_shared.proofs.MarkLemmas.{Marked}
use Rattle.scasp_print_shared.proofs.classes.marks_of.Given as goal

abbrev pub invariant-loop-left : goal.invariant-loop-left
invariant-loop-left l = Marked l.table l.lines l.left l.roots.items l.marks.items

abbrev pub decreases-loop-left : goal.decreases-loop-left
decreases-loop-left l = l.left
