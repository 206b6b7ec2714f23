use Rattle.std.proofs.Common.{◌≡◌, ℕ, ◌≤◌, ◌^◌, length, ap, arith}
use Rattle.std.proofs.Math.Pow.{pow_mono}
use Rattle.scasp_cells.proofs.Filling.{seen_len}
use Rattle.scasp_cells.proofs.cells.Cells.spare.Goals as goal

pub returns-clause-small : goal.returns-clause-small
returns-clause-small g c =
    let len_is = seen_len _ _ c.self.invariant _ c.self.view_is in
    let count : c.len.result ≡ length c.self.inside.segments.items = omega (arith, c.self.inside.segments.ok.0) in
    let power : 2 ^ c.len.result ≡ 2 ^ length c.self.inside.segments.items = ap (λ (k : ℕ). 2 ^ k) count in
    let few : c.len.result ≤ 63 = omega (arith, c.self.invariant.few) in
    let small : 2 ^ c.len.result ≤ 2 ^ 63 = pow_mono few in
    omega (arith, c.self.invariant.within)
