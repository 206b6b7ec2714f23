use Rattle.std.proofs.Common.{arith, ◌∙◌}
use Rattle.scasp_told.proofs.PlaceLemmas.{end_after, end_is}
use Rattle.scasp_told.proofs.cuts.end_at.Goals as goal

pub returns-clause-end : goal.returns-clause-end
returns-clause-end c = c.start_of.ensures.start ∙ end_is c.args.number c.args.counts.now c.requires.number

pub returns-clause-after : goal.returns-clause-after
returns-clause-after c = omega (arith, c.start_of.ensures.start, end_is c.args.number c.args.counts.now c.requires.number, end_after c.args.number c.args.counts.now c.requires.number)
