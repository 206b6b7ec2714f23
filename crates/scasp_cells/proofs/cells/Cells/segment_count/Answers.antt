use Rattle.std.proofs.Common.{◌≡◌, ℕ, ◌^◌, length, ap, arith}
use Rattle.scasp_cells.proofs.Filling.{seen_len, seen_spare}
use Rattle.scasp_cells.proofs.cells.Cells.segment_count.Goals as goal

pub returns : goal.returns
returns g c =
    let len_is = seen_len _ _ c.self.invariant _ c.self.view_is in
    let spare_is = seen_spare _ _ _ c.self.view_is in
    let count : c.len.result ≡ length c.self.inside.segments.items = omega (arith, c.self.inside.segments.ok.0) in
    let power : 2 ^ c.len.result ≡ 2 ^ length c.self.inside.segments.items = ap (λ (k : ℕ). 2 ^ k) count in
    omega (arith, c.self.invariant.within)
