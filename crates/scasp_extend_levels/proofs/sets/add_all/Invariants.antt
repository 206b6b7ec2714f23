use Rattle.std.proofs.Common.{◌≡◌, drop}
use Rattle.scasp_extend_levels.specs.Sets.{with_atoms}
use Rattle.scasp_extend_levels.proofs.sets.add_all.Given as goal

abbrev pub invariant-loop-atom : goal.invariant-loop-atom
invariant-loop-atom l = with_atoms l.set (drop l.atom-index l.atoms) ≡ with_atoms l.fn.set l.atoms
