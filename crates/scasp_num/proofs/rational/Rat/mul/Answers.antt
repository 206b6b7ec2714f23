use Rattle.scasp_num.specs.Arithmetic.{product_of}
use Rattle.scasp_num.proofs.Exact.{ok_from-computed, ok_as_computed, product_of-exact, product_of-fits}
use Rattle.scasp_num.proofs.rational.Rat.mul.Goals as goal

pub returns-clause-exact : goal.returns-clause-exact
returns-clause-exact c = ok_from-computed c.bounded_product.result (product_of c.args.self.now c.args.o.now) _ (λ r. product_of-exact c.args.self.now c.args.o.now r) c.bounded_product.ensures

pub returns-clause-fits : goal.returns-clause-fits
returns-clause-fits c = ok_as_computed c.bounded_product.result (product_of c.args.self.now c.args.o.now) _ (product_of-fits c.args.self.now c.args.o.now) c.bounded_product.ensures
