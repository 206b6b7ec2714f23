use Rattle.std.proofs.Common.{◌≡◌, Some, None, Option, ℤ, ◌*ℤ◌, ap, ◌∙◌, arith}
use Rattle.std.proofs.lemmas.Result.{err_from_is_err_and}
use Rattle.scasp_num.specs.Arithmetic.{◌>>=◌, sum_of}
use Rattle.scasp_num.specs.Number.{Number}
use Rattle.scasp_num.proofs.Numbers.{plain}
use Rattle.scasp_rows.specs.Steps.{whole}
use Rattle.scasp_rows.proofs.steps.constant_sum.Goals as goal

sum-none : (x y z w : ℤ) (left right : Number) → x ≡ z → y ≡ w → Some left ≡ whole x → Some right ≡ whole y → None ≡ sum_of left right → None ≡ (whole z >>= (λ left. whole w >>= (λ right. sum_of left right)))
sum-none x y z w left right d e f g h =
    h ∙ ap (λ (o : Option Number). o >>= (λ right. sum_of left right)) (g ∙ ap whole e) ∙ ap (λ (o : Option Number). o >>= (λ left. whole w >>= (λ right. sum_of left right))) (f ∙ ap whole d)

pub returns-in_err-sum : goal.returns-in_err-sum
returns-in_err-sum c =
    let p = err_from_is_err_and c.from_residual-in_err-sum.result c.from_residual-in_err-sum.ensures.1 in
    rw (p.1, p.2) (sum-none _ _ (c.args.a *ℤ c.args.p.now.constant) (c.args.b *ℤ c.args.q.now.constant) c.in_ok-left.left c.in_ok-right.right (grind (arith, plain)) (grind (arith, plain)) c.in_ok-left.ensures c.in_ok-right.ensures c.in_err-sum.ensures.value)
