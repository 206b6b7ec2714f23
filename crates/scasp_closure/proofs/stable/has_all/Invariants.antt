use Rattle.std.proofs.Common.{◌≡◌, drop}
use Rattle.scasp_model.specs.Atoms.{has_all}
use Rattle.scasp_closure.proofs.stable.has_all.Given as goal

abbrev pub invariant-loop-atom : goal.invariant-loop-atom
invariant-loop-atom l = has_all l.table (drop l.atom-index l.atom-items) ≡ has_all l.table l.wanted
