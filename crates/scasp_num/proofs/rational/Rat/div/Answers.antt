use Rattle.std.proofs.Common.{◌∙◌, ◌≡◌}
use Rattle.std.specs.Result.{result_ok}
use Rattle.scasp_num.specs.Arithmetic.{quotient_of}
use Rattle.scasp_num.proofs.Exact.{ok_from-computed, ok_as_computed, quotient_of-exact, quotient_of-fits, quotient_of-is}
use Rattle.scasp_num.proofs.rational.Rat.div.Goals as goal

pub returns-clause-exact : goal.returns-clause-exact
returns-clause-exact c =
    let p = c.args.self.now in
    let q = c.args.o.now in
    let t = c.turned_over-turned.result in
    let turned = c.turned_over-turned.ensures in
    let value : result_ok c.mul.result ≡ quotient_of p q = c.mul.ensures.value ∙ quotient_of-is p q t turned in
    ok_from-computed c.mul.result (quotient_of p q) _ (λ r. quotient_of-exact p q r) value

pub returns-clause-fits : goal.returns-clause-fits
returns-clause-fits c =
    let p = c.args.self.now in
    let q = c.args.o.now in
    let t = c.turned_over-turned.result in
    let turned = c.turned_over-turned.ensures in
    let value : result_ok c.mul.result ≡ quotient_of p q = c.mul.ensures.value ∙ quotient_of-is p q t turned in
    ok_as_computed c.mul.result (quotient_of p q) _ (quotient_of-fits p q t turned) value

pub returns-clause-value : goal.returns-clause-value
returns-clause-value c =
    let p = c.args.self.now in
    let q = c.args.o.now in
    let t = c.turned_over-turned.result in
    let turned = c.turned_over-turned.ensures in
    let value : result_ok c.mul.result ≡ quotient_of p q = c.mul.ensures.value ∙ quotient_of-is p q t turned in
    value
