use Rattle.std.proofs.Common.{◌≡◌, drop, map}
use Rattle.scasp_syntax.specs.Instances.{atom_under}
use Rattle.scasp_extend_instances.specs.View.{ways_of}
use Rattle.scasp_extend_levels.specs.Sets.{with_atoms}
use Rattle.scasp_extend_parts.proofs.literals.put_all.Given as goal

abbrev pub invariant-loop-way : goal.invariant-loop-way
invariant-loop-way l =
    with_atoms l.set (map (λ v. atom_under v l.atom) (ways_of (drop l.way-index l.ways)))
    ≡ with_atoms l.fn.set (map (λ v. atom_under v l.atom) (ways_of l.ways))
