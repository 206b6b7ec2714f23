use Rattle.std.proofs.Common.{◌≡◌, drop}
use Rattle.scasp_syntax.specs.Tm.{items}
use Rattle.scasp_syntax.specs.Values.{giving}
use Rattle.scasp_ground.specs.Bounded.{all_tested}
use Rattle.scasp_ground.proofs.tested.passes.Given as goal

abbrev pub invariant-loop-con : goal.invariant-loop-con
invariant-loop-con l = all_tested (giving (items l.values)) (drop l.con-index l.con-items) ≡ all_tested (giving (items l.values)) l.tests
