use Rattle.std.proofs.Common.{sym, ◌∙◌}
use Rattle.scasp_hint.specs.Satisfying.{sat}
use Rattle.scasp_search_assuming.proofs.GoingLemmas.{forks_same}
use Rattle.scasp_search_assuming.proofs.PartLemmas.{in_order, other_order}
use Rattle.scasp_search_assuming.proofs.parts.differ_variables.Goals as goal

pub returns-then-stands_first : goal.returns-then-stands_first
returns-then-stands_first g c =
    forks_same _ _ _ _ _ _ c.part_of_variables.ensures
    (in_order sat (g.M.Situation.now c.args.at.now) c.args.x c.args.y c.args.rest c.args.aim (sym c.stands_first.ensures ∙ c.if-stands_first.true))

pub returns-else-stands_first : goal.returns-else-stands_first
returns-else-stands_first g c =
    forks_same _ _ _ _ _ _ c.part_of_variables-else-stands_first.ensures
    (other_order sat (g.M.Situation.now c.args.at.now) c.args.x c.args.y c.args.rest c.args.aim (sym c.stands_first.ensures ∙ c.if-stands_first.false))
