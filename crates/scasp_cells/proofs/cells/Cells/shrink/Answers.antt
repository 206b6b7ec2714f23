use Rattle.std.proofs.Common.{◌≡◌, ◌*◌, ◌^◌, ◌<◌, ◌≤◌, ℕ, suc, length, ap, ◌∙◌, arith}
use Rattle.std.proofs.Math.Nat.{pow-suc}
use Rattle.std.proofs.Math.Pow.{pow_mono}
use Rattle.scasp_cells.proofs.cells.Cells.shrink.Goals as goal

-- with a segment more there is room for twice as many
twice_room : (count more : ℕ) → count < more → 2 ^ count * 2 ≤ 2 ^ more
twice_room count more lt =
    let next : suc count ≤ more = omega arith in
    let grows : 2 ^ suc count ≤ 2 ^ more = pow_mono next in
    let twice : 2 ^ suc count ≡ 2 ^ count * 2 = pow-suc 2 count in
    omega arith

pub free_last-requires : goal.free_last-requires
free_last-requires g c =
    let more = twice_room c.args.count c.segment_count.result (omega arith) in
    omega (arith, ap length c.loop-self.invariant.items)

pub loop-self-preserved : goal.loop-self-preserved
loop-self-preserved g c =
    let more = twice_room c.args.count c.segment_count.result (omega arith) in
    record {
      items = c.free_last.ensures.items ∙ c.loop-self.invariant.items;
      above = let same = ap length c.free_last.ensures.items in omega arith;
    }

pub returns-clause-spare : goal.returns-clause-spare
returns-clause-spare g c =
    let few : c.segment_count.result ≤ c.args.count = omega arith in
    let below : 2 ^ c.segment_count.result ≤ 2 ^ c.args.count = pow_mono few in
    omega arith
