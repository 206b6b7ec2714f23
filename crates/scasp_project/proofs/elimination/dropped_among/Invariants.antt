use Rattle.std.proofs.Common.{◌≡◌, ◌++◌, drop, filter}
use Rattle.scasp_project.specs.Dropped.{is_dropped}
use Rattle.scasp_project.proofs.elimination.dropped_among.Given as goal

abbrev pub invariant-loop-x : goal.invariant-loop-x
invariant-loop-x l = l.all.items ++ filter (is_dropped l.keep) (drop l.x-index l.variables) ≡ filter (is_dropped l.keep) l.variables
