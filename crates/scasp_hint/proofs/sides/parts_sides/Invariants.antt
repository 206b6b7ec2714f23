use Rattle.std.proofs.Common.{◌≡◌, ◌++◌, Some, drop, map}
use Rattle.scasp_num.specs.Arithmetic.{◌>>=◌}
use Rattle.scasp_unify.specs.Solving.{part_of}
use Rattle.scasp_hint.specs.Sides.{parts_sides}
use Rattle.scasp_hint.proofs.sides.parts_sides.Given as goal

abbrev pub invariant-loop-part : goal.invariant-loop-part
invariant-loop-part l = (parts_sides (map part_of (drop l.part-index l.parts)) >>= (λ rs. Some (l.rows ++ rs))) ≡ parts_sides (map part_of l.parts)
