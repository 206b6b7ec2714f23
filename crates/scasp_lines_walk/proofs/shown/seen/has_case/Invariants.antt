use Rattle.std.proofs.Common.{◌≡◌, map, length, nat_eq}
use Rattle.std.specs.List.{list_any}
use Rattle.scasp_lines.specs.Places.{Around}
use Rattle.scasp_lines_places.specs.Places.Chains.{chained}
use Rattle.scasp_lines_places.specs.Places.View.{around_of}
use Rattle.scasp_lines_walk.proofs.shown.seen.has_case.Given as goal

abbrev pub invariant-loop-case : goal.invariant-loop-case
invariant-loop-case l =
    list_any (λ (k : Around). nat_eq k.at l.at) (map around_of (chained l.rest)) ≡ list_any (λ (k : Around). nat_eq k.at l.at) (map around_of (chained l.around))

abbrev pub decreases-loop-case : goal.decreases-loop-case
decreases-loop-case l = length (chained l.rest)
