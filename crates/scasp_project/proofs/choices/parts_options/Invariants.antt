use Rattle.std.proofs.Common.{◌≡◌, ◌++◌, Some, drop, map}
use Rattle.scasp_num.specs.Arithmetic.{◌>>=◌}
use Rattle.scasp_unify.specs.Solving.{part_of}
use Rattle.scasp_project.specs.Choices.{parts_options}
use Rattle.scasp_project.specs.Inside.CodeReading.{numbers_of}
use Rattle.scasp_project.proofs.choices.parts_options.Given as goal

abbrev pub invariant-loop-part : goal.invariant-loop-part
invariant-loop-part l = (parts_options (numbers_of l.resolver) (map part_of (drop l.part-index l.parts)) >>= (λ os. Some (l.found ++ os))) ≡ parts_options (numbers_of l.resolver) (map part_of l.parts)
