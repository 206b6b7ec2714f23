use Rattle.std.proofs.Common.{◌≡◌}
use Rattle.scasp_syntax.specs.Tm.{weight_s}
use Rattle.scasp_syntax.specs.View.{tm_of}
use Rattle.scasp_unify.specs.Parts.{parts, parts_each}
use Rattle.scasp_unify.specs.Solving.{behind}
use Rattle.scasp_unify.proofs.parts.find_parts.Given as goal

abbrev pub invariant-pairs : goal.invariant-pairs
invariant-pairs l = behind l.fn.found.items (parts (tm_of l.left) (tm_of l.right)) ≡ behind l.found.items (parts_each l.lefts l.rights)

abbrev pub decreases-pairs : goal.decreases-pairs
decreases-pairs l = weight_s l.lefts
