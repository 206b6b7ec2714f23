use Rattle.std.proofs.Common.{pos, ap, arith}
use Rattle.scasp_lines_places.specs.Dues.Above.{past}
use Rattle.scasp_lines_places.proofs.DuesLemmas.AboveLemmas.{above_at}
use Rattle.scasp_lines_places.proofs.dues.determining.put_values.Goals as goal

pub put_value-requires : goal.put_value-requires
put_value-requires g c =
    let within = above_at (g.S.Substitution.gives c.args.by.now) c.args.coeffs.now c.loop-k.k-index (record { x = 0; c = pos 0 }) c.loop-k-test.true in
    let value = ap past c.in_ok-value.ensures in
    let x = c.in_ok-x.ensures in omega (arith, within, value, x, c.requires)
