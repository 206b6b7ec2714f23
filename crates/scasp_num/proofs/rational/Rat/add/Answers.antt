use Rattle.scasp_num.specs.Arithmetic.{sum_of}
use Rattle.scasp_num.proofs.Exact.{ok_from-computed, ok_as_computed, sum_of-exact, sum_of-fits}
use Rattle.scasp_num.proofs.rational.Rat.add.Goals as goal

pub returns-clause-exact : goal.returns-clause-exact
returns-clause-exact c = ok_from-computed c.bounded_sum.result (sum_of c.args.self.now c.args.o.now) _ (λ r. sum_of-exact c.args.self.now c.args.o.now r) c.bounded_sum.ensures

pub returns-clause-fits : goal.returns-clause-fits
returns-clause-fits c = ok_as_computed c.bounded_sum.result (sum_of c.args.self.now c.args.o.now) _ (sum_of-fits c.args.self.now c.args.o.now) c.bounded_sum.ensures
