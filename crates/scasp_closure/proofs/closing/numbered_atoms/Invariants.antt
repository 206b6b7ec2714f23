use Rattle.std.proofs.Common.{take}
use Rattle.scasp_closure.specs.Reading.{Stand, Extends}
use Rattle.scasp_closure.proofs.closing.numbered_atoms.Given as goal

abbrev pub invariant-loop-atom : goal.invariant-loop-atom
invariant-loop-atom l = record {
  grown : Extends l.fn.table l.table;
  numbers : Stand l.table l.numbers (take l.atom-index l.atoms);
}
