use Rattle.std.proofs.Common.{◌≡◌, ◌++◌, drop, map}
use Rattle.scasp_fixed.specs.Fixed.{values_from}
use Rattle.scasp_syntax.specs.View.{tm_of}
use Rattle.scasp_fixed.proofs.values.values_of.Given as goal

abbrev pub invariant-loop-term : goal.invariant-loop-term
invariant-loop-term l =
    l.values.items ++ values_from l.lists l.x (map tm_of (drop l.term-index l.sample)) ≡ values_from l.lists 0 (map tm_of l.sample)
