use Rattle.std.proofs.Common.{IsTrue, not, subst}
use Rattle.std.specs.Prelude.{nat_eq}
use Rattle.scasp_rows.proofs.Wrapping.{sum-bits}
use Rattle.scasp_rows.proofs.range.is_not_zero.Goals as goal

pub returns : goal.returns
returns c = λ t e.
    let r = c.ranges in
    let zero = sum-bits c.args.a c.args.c c.args.b c.args.d r.a r.c r.b r.d e in
    let no = subst (λ n. IsTrue (not (nat_eq n 0))) zero t in
    absurd (cc)
