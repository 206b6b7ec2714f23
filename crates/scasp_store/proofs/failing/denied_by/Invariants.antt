use Rattle.std.proofs.Common.{length, ◌-◌}
use Rattle.scasp_store.proofs.failing.denied_by.Given as goal

abbrev pub decreases-loop-at : goal.decreases-loop-at
decreases-loop-at l = length l.list - l.at
