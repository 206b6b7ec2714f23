use Rattle.std.proofs.Common.{◌≡◌, map, length}
use Rattle.std.specs.List.{list_all}
use Rattle.scasp_checker_rules.specs.Targets.{is_around}
use Rattle.scasp_lines_places.specs.Places.Chains.{chained}
use Rattle.scasp_lines_places.specs.Places.View.{around_of}
use Rattle.scasp_lines_walk.proofs.shown.seen.are_around.Given as goal

abbrev pub invariant-loop-case : goal.invariant-loop-case
invariant-loop-case l =
    list_all (is_around (map around_of (chained l.here))) (map around_of (chained l.rest))
    ≡ list_all (is_around (map around_of (chained l.here))) (map around_of (chained l.cases))

abbrev pub decreases-loop-case : goal.decreases-loop-case
decreases-loop-case l = length (chained l.rest)
