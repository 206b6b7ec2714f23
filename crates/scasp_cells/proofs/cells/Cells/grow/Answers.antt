use Rattle.std.proofs.Common.{◌^◌, ◌≤◌, length, arith, lt_of_not-le}
use Rattle.std.proofs.Math.Pow.{pow_mono}
use Rattle.scasp_cells.proofs.Filling.{seen_len, seen_spare}
use Rattle.scasp_cells.proofs.cells.Cells.grow.Goals as goal

pub add_segment-requires : goal.add_segment-requires
add_segment-requires g c =
    let len_is = seen_len _ _ c.self.invariant _ c.self.view_is in
    let spare_is = seen_spare _ _ _ c.self.view_is in
    lt_of_not-le (λ (le : 63 ≤ length c.self.inside.segments.items). let big : 2 ^ 63 ≤ 2 ^ length c.self.inside.segments.items = pow_mono le in omega (arith, c.self.invariant.within))
