use Rattle.std.proofs.Common.{◌≡◌, drop}
use Rattle.std.specs.List.{list_any}
use Rattle.scasp_project.specs.Dropped.{is_dropped_number}
use Rattle.scasp_project.specs.Inside.CodeReading.{reading}
use Rattle.scasp_project.proofs.dropped.has_dropped_number.Given as goal

abbrev pub invariant-loop-x : goal.invariant-loop-x
invariant-loop-x l = list_any (is_dropped_number (reading l.resolver l.keep)) (drop l.x-index l.variables) ≡ list_any (is_dropped_number (reading l.resolver l.keep)) l.variables
