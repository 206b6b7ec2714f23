use Rattle.std.proofs.Common.{◌≡◌, ◌++◌, drop, map}
use Rattle.scasp_fixed.specs.Fixed.{numbers_from}
use Rattle.scasp_syntax.specs.View.{tm_of}
use Rattle.scasp_fixed.proofs.values.numbers_of.Given as goal

abbrev pub invariant-loop-term : goal.invariant-loop-term
invariant-loop-term l =
    l.numbers.items ++ numbers_from l.x (map tm_of (drop l.term-index l.sample)) ≡ numbers_from 0 (map tm_of l.sample)
