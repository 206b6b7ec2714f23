use Rattle.std.proofs.Common.{ap}
use Rattle.scasp_hint.specs.Satisfying.{sat}
use Rattle.scasp_search_rules.specs.Successors.Differences.{differ_pairs}
use Rattle.scasp_search_assuming.proofs.GoingLemmas.{forks_same}
use Rattle.scasp_search_assuming.proofs.differences.differ_terms.Goals as goal

pub returns : goal.returns
returns g c =
    forks_same _ _ _ _ _ _ c.differ_pairs.ensures (ap (λ ps. differ_pairs sat (g.M.Situation.now c.args.at.now) ps c.args.aim) c.in_ok-left.ensures)
