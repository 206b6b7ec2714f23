use Rattle.std.proofs.Common.{◌≡◌, drop, []}
use Rattle.scasp_closure.specs.Reading.{with_atoms}
use Rattle.scasp_closure.proofs.stable.table_of.Given as goal

abbrev pub invariant-loop-atom : goal.invariant-loop-atom
invariant-loop-atom l = with_atoms l.table (drop l.atom-index l.atom-items) ≡ with_atoms [] l.atoms
