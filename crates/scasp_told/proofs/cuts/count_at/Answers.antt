use Rattle.std.proofs.Common.{arith}
use Rattle.scasp_told.proofs.PlaceLemmas.{count_within}
use Rattle.scasp_told.proofs.cuts.count_at.Goals as goal

pub returns-clause-within : goal.returns-clause-within
returns-clause-within c = omega (arith, count_within c.args.number c.count_of.result c.args.counts.now c.count_of.ensures, c.requires.fits)
