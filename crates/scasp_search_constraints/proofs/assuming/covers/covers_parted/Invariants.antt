use Rattle.std.proofs.Common.{◌≡◌, ◌++◌}
use Rattle.std.specs.Vec.Iter.{into_iter_items}
use Rattle.scasp_search_rules.specs.Successors.Splits.{at_depth, cover_parted}
use Rattle.scasp_search_constraints.proofs.assuming.covers.covers_parted.Given as goal

abbrev pub invariant-loop-cover : goal.invariant-loop-cover
invariant-loop-cover l =
    l.made ++ at_depth l.depth (cover_parted l.parting l.bound) (into_iter_items l.cover-iterator)
    ≡ at_depth l.depth (cover_parted l.parting l.bound) l.fn.covers
