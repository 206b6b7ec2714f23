use Rattle.std.proofs.Common.{◌≡◌, [], drop}
use Rattle.scasp_closure.specs.Reading.{atoms_onto}
use Rattle.scasp_worklist.specs.Numbered.{has}
use Rattle.scasp_closure.proofs.closing.atoms_onto.Given as goal

abbrev pub invariant-loop-number : goal.invariant-loop-number
invariant-loop-number l = atoms_onto (has l.set) l.number l.made (drop l.number l.atoms) ≡ atoms_onto (has l.set) 0 [] l.atoms
