use Rattle.std.proofs.Common.{◌≡◌, ◌++◌}
use Rattle.std.specs.Vec.Iter.{into_iter_items}
use Rattle.scasp_rows.specs.declared.state.Sign.TheVariants as sign
use Rattle.scasp_rows.specs.Elimination.{rows_with}
use Rattle.scasp_rows.proofs.elimination.rows_without.Given as goal

abbrev pub invariant-loop-r : goal.invariant-loop-r
invariant-loop-r l = l.kept ++ rows_with sign.Zero l.x (into_iter_items l.r-iterator) ≡ rows_with sign.Zero l.x l.fn.rows
