use Rattle.std.proofs.Common.{◌≡◌, Some, None, ap}
use Rattle.scasp_num.specs.declared.linear.Op.TheVariants as op
use Rattle.scasp_num.specs.Sums.{normal_of}
use Rattle.scasp_reader.proofs.BodiesLemmas.ZeroRow.{zero_row-is}
use Rattle.scasp_reader.proofs.bodies.comparisons.zero_row.Goals as goal

pub returns-in-Ok-normal : goal.returns-in-Ok-normal
returns-in-Ok-normal c =
    let z = c.in-Ok.zero in
    let e : Some c.in-Ok-normal.row ≡ normal_of c.new-2.result z op.Eq = c.in-Ok-normal.ensures.exact in
    let f = zero_row-is z c.in-Ok.ensures.value in
    let n = ap (λ ps. normal_of ps z op.Eq) c.new-2.ensures in
    cc (e, n, f)

pub unreachable-requires-in-Err-Overflow : goal.unreachable-requires-in-Err-Overflow
unreachable-requires-in-Err-Overflow c =
    let z = c.in-Ok.zero in
    let e : None ≡ normal_of c.new-2.result z op.Eq = rw c.in-Err-Overflow.field-0-is at c.in-Err-Overflow.ensures.exact in
    let f = zero_row-is z c.in-Ok.ensures.value in
    let n = ap (λ ps. normal_of ps z op.Eq) c.new-2.ensures in
    cc (e, n, f)
