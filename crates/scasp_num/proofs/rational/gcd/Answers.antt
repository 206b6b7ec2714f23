use Rattle.std.proofs.Common.{◌≡◌, ◌<◌, sym, ap, subst, ◌∙◌, arith}
use Rattle.std.specs.Int.{IsGcd}
use Rattle.scasp_num.specs.Gcd.{gcd}
use Rattle.scasp_num.proofs.Gcds.{gcd-is, gcd-zero, gcd-mod, gcd-pos_left, gcd-pos_right}
use Rattle.scasp_num.proofs.rational.gcd.Goals as goal

pub loop-y-preserved : goal.loop-y-preserved
loop-y-preserved c = gcd-mod c.loop-y.x c.loop-y.y (omega arith) ∙ c.loop-y.invariant

pub returns-clause-value : goal.returns-clause-value
returns-clause-value c =
    let e : c.loop-y.y ≡ 0 = omega arith in
    sym (gcd-zero c.loop-y.x) ∙ ap (gcd c.loop-y.x) (sym e) ∙ c.loop-y.invariant

pub returns-clause-greatest : goal.returns-clause-greatest
returns-clause-greatest c =
    let e : c.loop-y.y ≡ 0 = omega arith in
    let same : gcd c.args.a c.args.b ≡ c.loop-y.x = sym c.loop-y.invariant ∙ ap (gcd c.loop-y.x) e ∙ gcd-zero c.loop-y.x in
    subst (IsGcd c.args.a c.args.b) same (gcd-is c.args.a c.args.b)

pub returns-clause-first_above : goal.returns-clause-first_above
returns-clause-first_above c above =
    let e : c.loop-y.y ≡ 0 = omega arith in
    let same : gcd c.args.a c.args.b ≡ c.loop-y.x = sym c.loop-y.invariant ∙ ap (gcd c.loop-y.x) e ∙ gcd-zero c.loop-y.x in
    subst (λ x. 0 < x) same (gcd-pos_left c.args.a c.args.b above)

pub returns-clause-second_above : goal.returns-clause-second_above
returns-clause-second_above c above =
    let e : c.loop-y.y ≡ 0 = omega arith in
    let same : gcd c.args.a c.args.b ≡ c.loop-y.x = sym c.loop-y.invariant ∙ ap (gcd c.loop-y.x) e ∙ gcd-zero c.loop-y.x in
    subst (λ x. 0 < x) same (gcd-pos_right c.args.a c.args.b above)
