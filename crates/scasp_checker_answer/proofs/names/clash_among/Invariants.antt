use Rattle.std.proofs.Common.{◌≡◌}
use Rattle.scasp_syntax.specs.Tm.{weight_s}
use Rattle.scasp_checker_answer.specs.NameClashes.{clash_among}
use Rattle.scasp_checker_answer.proofs.names.clash_among.Given as goal

abbrev pub invariant-pairs : goal.invariant-pairs
invariant-pairs l = clash_among l.lefts l.rights ≡ clash_among l.left l.right

abbrev pub decreases-pairs : goal.decreases-pairs
decreases-pairs l = weight_s l.lefts
