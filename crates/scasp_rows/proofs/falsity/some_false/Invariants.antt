use Rattle.std.proofs.Common.{◌≡◌, drop}
use Rattle.scasp_rows.specs.Inside.Outlooks.{some_false}
use Rattle.scasp_rows.proofs.falsity.some_false.Given as goal

abbrev pub invariant-loop-i : goal.invariant-loop-i
invariant-loop-i l = some_false l.x l.l (drop l.i l.uppers) ≡ some_false l.x l.l l.uppers
