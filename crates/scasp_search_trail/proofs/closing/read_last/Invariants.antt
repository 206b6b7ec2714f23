use Rattle.std.proofs.Common.{◌≡◌, ◌-◌, ◌++◌, drop, length, map, reverse, take}
use Rattle.scasp_readings.specs.Readings.{reading}
use Rattle.scasp_search_rules.specs.Successors.Cases.{line_under}
use Rattle.scasp_search_trail.proofs.closing.read_last.Given as goal
use Rattle.scasp_search_trail.specs.States.{others}
use Rattle.scasp_told.specs.Pieces.{last_of}

abbrev pub invariant-lines : goal.invariant-lines
invariant-lines l = record {
  last : last_of l.told.now ≡ map (line_under (reading l.bound.now)) (take l.at (last_of l.fn.told.now)) ++ drop l.at (last_of l.fn.told.now);
  others : others (reverse l.told.now) ≡ others (reverse l.fn.told.now);
  before : l.told.before ≡ l.fn.told.before;
}

abbrev pub decreases-lines : goal.decreases-lines
decreases-lines l = length (last_of l.fn.told.now) - l.at
