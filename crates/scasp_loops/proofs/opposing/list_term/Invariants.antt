use Rattle.std.proofs.Common.{◌≡◌, ◌≤◌, drop, length}
use Rattle.scasp_syntax.specs.Tm.{items}
use Rattle.scasp_syntax.specs.View.{tm_of, tms_of}
use Rattle.scasp_unify.specs.SimpleForm.{list_term}
use Rattle.scasp_loops.proofs.opposing.list_term.Given as goal

abbrev pub invariant-loop-place : goal.invariant-loop-place
invariant-loop-place l = (l.place ≤ length l.all) × (tm_of l.made ≡ list_term (items (tms_of (drop l.place l.all))))

abbrev pub decreases-loop-place : goal.decreases-loop-place
decreases-loop-place l = l.place
