use Rattle.std.proofs.Common.{◌≡◌, ◌<◌, ℕ}
use Rattle.scasp_worklist.specs.Numbered.{has}
use Rattle.scasp_extend_levels.proofs.signs.are_same_below.Given as goal

abbrev pub invariant-loop-number : goal.invariant-loop-number
invariant-loop-number l = (n : ℕ) → n < l.number → has l.first n ≡ has l.second n
