use Rattle.std.proofs.Common.{◌<◌, ◌^◌, arith}
use Rattle.scasp_answers.proofs.PartsLemmas.NumberLemmas.{check-fits}
use Rattle.scasp_answers.proofs.opens.top.kind.Goals as goal

pub overflow_cast-result : goal.overflow_cast-result
overflow_cast-result c = let h = rw c.in-Check.is at c.args.top.now.fits in let k : c.in-Check.clause < 2 ^ 64 = check-fits _ h in omega (arith, k)
