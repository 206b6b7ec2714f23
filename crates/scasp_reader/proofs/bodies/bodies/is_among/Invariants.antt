use Rattle.std.proofs.Common.{◌≡◌, nat_eq, drop}
use Rattle.std.specs.List.{list_any}
use Rattle.scasp_reader.proofs.bodies.bodies.is_among.Given as goal

abbrev pub invariant-loop-number : goal.invariant-loop-number
invariant-loop-number l = list_any (nat_eq l.x) l.numbers ≡ list_any (nat_eq l.x) (drop l.number-index l.numbers)
