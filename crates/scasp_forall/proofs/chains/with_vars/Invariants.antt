use Rattle.std.proofs.Common.{◌≡◌, ◌++◌, take}
use Rattle.scasp_forall.specs.Inside.Listed.{listed}
use Rattle.scasp_forall.proofs.chains.with_vars.Given as goal

abbrev pub invariant-loop-x : goal.invariant-loop-x
invariant-loop-x l = listed l.made ≡ listed l.chain ++ take l.x-index l.xs
