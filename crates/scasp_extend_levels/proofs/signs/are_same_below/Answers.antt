use Rattle.std.proofs.Common.{◌∙◌, sym}
use Rattle.scasp_worklist.specs.Numbered.{has}
use Rattle.scasp_extend_levels.proofs.SignLemmas.{below-more, not-apart}
use Rattle.scasp_extend_levels.proofs.signs.are_same_below.Goals as goal

pub loop-number-preserved : goal.loop-number-preserved
loop-number-preserved c = below-more (has c.args.first.now) (has c.args.second.now) c.loop-number.number c.loop-number.invariant
    (sym c.contains.ensures ∙ not-apart c.contains.result c.contains-in-loop-number.result c.if-contains.false ∙ c.contains-in-loop-number.ensures)
