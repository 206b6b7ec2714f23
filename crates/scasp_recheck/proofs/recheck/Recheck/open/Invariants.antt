use Rattle.std.proofs.Common.{◌≡◌, map, take}
use Rattle.scasp_recheck.specs.Checks.{checked_of}
use Rattle.scasp_recheck.specs.Views.{filed_cert}
use Rattle.scasp_recheck.proofs.recheck.Recheck.open.Given as goal

abbrev pub invariant-loop-filed : goal.invariant-loop-filed
invariant-loop-filed l = l.results ≡ map (checked_of l.program) (map filed_cert (take l.filed-index l.filed-items))
