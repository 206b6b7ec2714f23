use Rattle.std.proofs.Common.{◌∙◌, ◌^◌, sym, ap, arith}
use Rattle.scasp_ground.proofs.CountLemmas.{power-of_one}
use Rattle.scasp_ground.proofs.count.power.Goals as goal

pub returns-in-1-clause-some : goal.returns-in-1-clause-some
returns-in-1-clause-some c = (power-of_one c.args.variables ∙ ap (λ m. m ^ c.args.variables) (sym c.in-1.is), omega arith)
