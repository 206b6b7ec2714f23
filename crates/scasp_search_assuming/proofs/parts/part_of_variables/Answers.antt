use Rattle.std.proofs.Common.{ap, ◌∙◌}
use Rattle.scasp_hint.specs.Satisfying.{sat}
use Rattle.scasp_search_rules.specs.Successors.Differences.{at_part}
use Rattle.scasp_syntax.specs.declared.con.Con.TheVariants as con
use Rattle.scasp_syntax.specs.declared.term.Term.TheVariants.{Var}
use Rattle.scasp_search_assuming.proofs.GoingLemmas.{forks_same}
use Rattle.scasp_search_assuming.proofs.parts.part_of_variables.Goals as goal

pub returns : goal.returns
returns g c =
    forks_same _ _ _ _ _ _ c.at_part.ensures
    (ap (at_part sat (g.M.Situation.now c.args.at.now) (con.Neq (Var c.args.x) (Var c.args.y)) c.args.aim) (c.from-other.ensures ∙ c.in_ok-vec.ensures.items))
