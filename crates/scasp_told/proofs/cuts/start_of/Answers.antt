use Rattle.std.proofs.Common.{arith, take, ◌∙◌}
use Rattle.scasp_told.proofs.PlaceLemmas.{sums, total_within}
use Rattle.scasp_told.proofs.cuts.start_of.Goals as goal

pub total_of-requires : goal.total_of-requires
total_of-requires c = omega (arith, sums (take c.args.number c.args.counts.now), total_within c.args.number c.args.counts.now, c.requires.fits, c.ranges.len)

pub returns-clause-start : goal.returns-clause-start
returns-clause-start c = c.total_of.ensures ∙ sums (take c.args.number c.args.counts.now)

pub returns-clause-within : goal.returns-clause-within
returns-clause-within c = omega (arith, c.total_of.ensures, sums (take c.args.number c.args.counts.now), total_within c.args.number c.args.counts.now, c.requires.fits)
