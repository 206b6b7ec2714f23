use Rattle.std.proofs.Common.{sym, ◌∙◌}
use Rattle.std.proofs.lemmas.Int.{to_z-of_z}
use Rattle.scasp_rows.specs.Steps.{row_sum}
use Rattle.scasp_rows.proofs.Pairing.{outlook-none, outlook-open}
use Rattle.scasp_rows.proofs.Values.{row_sum-open}
use Rattle.scasp_rows.proofs.outlook.sum_outlook.Goals as goal

pub returns-then-not-sum_fits : goal.returns-then-not-sum_fits
returns-then-not-sum_fits c =
    let ra = c.ranges.a in
    let rb = c.ranges.b in
    outlook-none (row_sum c.args.a c.args.p.now c.args.b c.args.q.now) (sym (simp to_z-of_z at c.sum_fits.ensures) ∙ c.if-not-sum_fits.true)

pub returns-then-has_variable : goal.returns-then-has_variable
returns-then-has_variable c =
    let ra = c.ranges.a in
    let rb = c.ranges.b in
    let left = (simp to_z-of_z at c.has_variable.ensures.left) c.if-has_variable.true in
    outlook-open (row_sum c.args.a c.args.p.now c.args.b c.args.q.now) (sym (simp to_z-of_z at c.sum_fits.ensures) ∙ c.if-not-sum_fits.false)
    (λ row e. row_sum-open c.args.a c.args.p.now c.args.b c.args.q.now row e c.has_variable.ensures.normal.0 c.has_variable.ensures.normal.1 left.0 left.1)
