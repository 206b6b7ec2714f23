use Rattle.std.proofs.Common.{sym, ◌∙◌}
use Rattle.scasp_hint.specs.Satisfying.{sat}
use Rattle.scasp_search_assuming.proofs.ShapeLemmas.{shape_existential, shape_universal}
use Rattle.scasp_search_assuming.proofs.GoingLemmas.{goes_same}
use Rattle.scasp_search_assuming.proofs.shapes.becomes_shape.Goals as goal

pub returns-in_ok-make-clause-now : goal.returns-in_ok-make-clause-now
returns-in_ok-make-clause-now g c =
    goes_same _ _ _ _ c.replaced_if.ensures.now
    (shape_universal sat (g.M.Situation.now c.args.at.now) (g.M.Situation.now c.make.new.self) c.args.x c.args.name c.args.arity c.depth_of-depth.result c.next_variable.result c.in_ok-numbered_parts.field-0
    (sym c.is_universal.ensures ∙ c.if-is_universal.true) c.in_ok-make.ensures.now c.depth_of-depth.ensures c.in_ok-numbered_parts.ensures c.next_variable.ensures)

pub returns-in_ok-make-2-clause-now : goal.returns-in_ok-make-2-clause-now
returns-in_ok-make-2-clause-now g c =
    goes_same _ _ _ _ c.bound_to.ensures.now
    (shape_existential sat (g.M.Situation.now c.args.at.now) (g.M.Situation.now c.make-else-is_universal.new.self) c.args.x c.args.name c.args.arity c.depth_of-depth.result c.next_variable.result c.in_ok-numbered_parts.field-0
    (sym c.is_universal.ensures ∙ c.if-is_universal.false) c.in_ok-make-2.ensures.now c.depth_of-depth.ensures c.in_ok-numbered_parts.ensures c.next_variable.ensures)
