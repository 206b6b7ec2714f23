use Rattle.std.proofs.Common.{◌≡◌, ◌≤◌, ◌++◌, length, reverse, take, vec_len}
use Rattle.scasp_search_trail.proofs.copying.with_lines.Given as goal
use Rattle.scasp_search_trail.specs.States.{lined, others}

abbrev pub invariant-covers : goal.invariant-covers
invariant-covers l =
    (l.made ++ lined (reverse l.left.items) (reverse (take l.count l.told.now)) ≡ lined (reverse l.fn.covers) (others (reverse l.told.now)))
    × (l.count ≤ length l.told.now)

abbrev pub decreases-covers : goal.decreases-covers
decreases-covers l = vec_len l.left
