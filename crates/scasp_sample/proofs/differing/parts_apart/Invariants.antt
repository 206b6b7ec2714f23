use Rattle.std.proofs.Common.{◌≡◌, ◌++◌, Some, drop, map}
use Rattle.scasp_num.specs.Arithmetic.{◌>>=◌}
use Rattle.scasp_unify.specs.Solving.{part_of}
use Rattle.scasp_sample.specs.Sampling.{parts_apart}
use Rattle.scasp_sample.proofs.differing.parts_apart.Given as goal

abbrev pub invariant-loop-part : goal.invariant-loop-part
invariant-loop-part l = (parts_apart (map part_of (drop l.part-index l.parts)) >>= (λ rs. Some (l.rows ++ rs))) ≡ parts_apart (map part_of l.parts)
