use Rattle.std.proofs.Common.{◌≡◌, drop}
use Rattle.scasp_model.specs.Atoms.{among}
use Rattle.scasp_model.proofs.atoms.among.Given as goal

abbrev pub invariant-loop-other : goal.invariant-loop-other
invariant-loop-other l = among (drop l.other-index l.other-items) l.atom ≡ among l.atoms l.atom
