use Rattle.std.proofs.Common.{◌∙◌, ◌≡◌}
use Rattle.std.specs.Result.{result_ok}
use Rattle.scasp_num.specs.Arithmetic.{difference_of}
use Rattle.scasp_num.proofs.Exact.{ok_from-computed, difference_of-exact, difference_of-is}
use Rattle.scasp_num.proofs.rational.Rat.sub.Goals as goal

pub returns-clause-exact : goal.returns-clause-exact
returns-clause-exact c =
    let p = c.args.self.now in
    let q = c.args.o.now in
    let value : result_ok c.add.result ≡ difference_of p q = c.add.ensures.value ∙ difference_of-is p q c.neg.result c.neg.ensures in
    ok_from-computed c.add.result (difference_of p q) _ (λ r. difference_of-exact p q r) value

pub returns-clause-value : goal.returns-clause-value
returns-clause-value c =
    let p = c.args.self.now in
    let q = c.args.o.now in
    let value : result_ok c.add.result ≡ difference_of p q = c.add.ensures.value ∙ difference_of-is p q c.neg.result c.neg.ensures in
    value
