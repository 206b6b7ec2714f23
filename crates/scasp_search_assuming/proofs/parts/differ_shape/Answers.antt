use Rattle.std.proofs.Common.{sym, ◌∙◌}
use Rattle.scasp_hint.specs.Satisfying.{sat}
use Rattle.scasp_search_assuming.proofs.ShapeLemmas.{other_shape}
use Rattle.scasp_search_assuming.proofs.GoingLemmas.{forks_same}
use Rattle.scasp_search_assuming.proofs.parts.differ_shape.Goals as goal

pub returns : goal.returns
returns g c =
    forks_same _ _ _ _ _ _ c.at_part.ensures
    (other_shape sat (g.M.Situation.now c.args.at.now) c.args.x c.args.name c.len.result c.args.args.now c.in_ok-copy_terms.field-0 c.args.rest c.args.aim c.from-other.result
    (sym c.in_ok-occurs_among.ensures ∙ c.if-branch.false) c.len.ensures c.in_ok-copy_terms.ensures (c.from-other.ensures ∙ c.in_ok-vec.ensures.items))
