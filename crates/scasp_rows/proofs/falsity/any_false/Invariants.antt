use Rattle.std.proofs.Common.{◌≡◌, drop}
use Rattle.scasp_rows.specs.Inside.Outlooks.{any_false}
use Rattle.scasp_rows.proofs.falsity.any_false.Given as goal

abbrev pub invariant-loop-l : goal.invariant-loop-l
invariant-loop-l l = any_false l.x (drop l.l-index l.lowers) l.uppers ≡ any_false l.x l.lowers l.uppers
