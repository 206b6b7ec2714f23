use Rattle.std.proofs.Common.{◌≡◌, sym, subst, ◌∙◌, ap}
use Rattle.scasp_num.specs.Linear.{coefficient}
use Rattle.scasp_num.specs.Number.{InRange}
use Rattle.scasp_num.proofs.Joins.{coefficient-range}
use Rattle.scasp_num.proofs.Numbers.{stored}
use Rattle.scasp_num.proofs.linear.Row.coefficient.Goals as goal

pub returns-clause-range : goal.returns-clause-range
returns-clause-range c =
    let terms = c.args.self.now.coeffs in
    let is : c.coefficient.result ≡ coefficient c.args.x terms = c.coefficient.ensures ∙ ap (coefficient c.args.x) (c.as_slice.ensures ∙ c.coeffs.ensures.value) in
    let range : InRange c.coefficient.result = subst InRange (sym is) (coefficient-range c.args.x terms c.coeffs.ensures.normal.range) in
    subst InRange (sym (stored c.coefficient.result range)) range
