use Rattle.std.proofs.Common.{◌≡◌, length, reverse}
use Rattle.scasp_bind.specs.Inside.Heads.{assembled, tops}
use Rattle.scasp_bind.proofs.resolving.assemble.Given as goal

abbrev pub invariant-loop-head : goal.invariant-loop-head
invariant-loop-head l = assembled (reverse l.heads.items) (tops l.done.items) ≡ assembled (reverse l.initial.heads.items) (tops l.initial.done.items)

abbrev pub decreases-loop-head : goal.decreases-loop-head
decreases-loop-head l = length l.heads.items
