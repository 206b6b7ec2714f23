use Rattle.std.proofs.Common.{sym, ◌∙◌}
use Rattle.scasp_hint.specs.Satisfying.{sat}
use Rattle.scasp_syntax.specs.View.{tm_of}
use Rattle.scasp_search_assuming.proofs.GoingLemmas.{forks_same}
use Rattle.scasp_search_assuming.proofs.PartLemmas.{unmatched}
use Rattle.scasp_search_assuming.proofs.differences.differ_first.Goals as goal

pub returns-else-is_matched : goal.returns-else-is_matched
returns-else-is_matched g c =
    forks_same _ _ _ _ _ _ c.differ_pair.ensures
    (unmatched sat (g.M.Situation.now c.args.at.now) (tm_of c.args.pair.now.left) (tm_of c.args.pair.now.right) c.args.rest c.args.aim (sym c.is_matched.ensures ∙ c.if-is_matched.false))
