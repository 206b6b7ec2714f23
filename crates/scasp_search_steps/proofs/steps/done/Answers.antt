use Rattle.scasp_hint.specs.Satisfying.{sat}
use Rattle.scasp_search_rules.specs.Successors.Assumptions.{assume}
use Rattle.scasp_search_rules.specs.Successors.Differences.{differ_terms, differ_value, same_shape, same_value}
use Rattle.scasp_search_rules.specs.Successors.Equations.{equate_terms}
use Rattle.scasp_search_steps.proofs.ForkLemmas.{forks_if, one_way}
use Rattle.scasp_search_steps.proofs.steps.done.Goals as goal
use Rattle.scasp_syntax.specs.View.{tm_of}

pub returns-in-Equate : goal.returns-in-Equate
returns-in-Equate g c =
    rw c.in-Equate.is
    (one_way g.M.Foresees.foresees c.args.program.now (equate_terms sat (g.M.Situation.now c.args.at.now) (tm_of c.in-Equate.left) (tm_of c.in-Equate.right)) (g.M.Situation.now c.equate_terms.new.at)
    (g.M.Situation.points c.equate_terms.new.at) (g.M.Situation.points c.args.at.now) c.equate_terms.result c.equate_terms.ensures.now c.equate_terms.ensures.points)

pub returns-in-Assume : goal.returns-in-Assume
returns-in-Assume g c =
    rw c.in-Assume.is
    (one_way g.M.Foresees.foresees c.args.program.now (assume sat (g.M.Situation.now c.args.at.now) c.in-Assume.constraint) (g.M.Situation.now c.assume.new.at)
    (g.M.Situation.points c.assume.new.at) (g.M.Situation.points c.args.at.now) c.assume.result c.assume.ensures.now c.assume.ensures.points)

pub returns-in-Become : goal.returns-in-Become
returns-in-Become g c =
    rw c.in-Become.is
    (one_way g.M.Foresees.foresees c.args.program.now (same_value sat (g.M.Situation.now c.args.at.now) c.in-Become.x (tm_of c.in-Become.term) c.in-Become.rest c.in-Become.aim) (g.M.Situation.now c.same_value.new.at)
    (g.M.Situation.points c.same_value.new.at) (g.M.Situation.points c.args.at.now) c.same_value.result c.same_value.ensures.now c.same_value.ensures.points)

pub returns-in-Shape : goal.returns-in-Shape
returns-in-Shape g c =
    rw c.in-Shape.is
    (one_way g.M.Foresees.foresees c.args.program.now (same_shape sat (g.M.Situation.now c.args.at.now) c.in-Shape.x c.in-Shape.name c.in-Shape.args c.in-Shape.rest c.in-Shape.aim) (g.M.Situation.now c.same_shape.new.at)
    (g.M.Situation.points c.same_shape.new.at) (g.M.Situation.points c.args.at.now) c.same_shape.result c.same_shape.ensures.now c.same_shape.ensures.points)

pub returns-in-Differ : goal.returns-in-Differ
returns-in-Differ g c =
    rw c.in-Differ.is
    (forks_if g.M.Foresees.foresees c.args.program.now (differ_terms sat (g.M.Situation.now c.args.at.now) c.in-Differ.pairs c.in-Differ.aim) (g.M.Situation.now c.differ_terms.new.at)
    (g.M.Situation.points c.differ_terms.new.at) (g.M.Situation.points c.args.at.now) c.differ_terms.result (c.differ_terms.ensures c.args.program.now))

pub returns-in-Avoid : goal.returns-in-Avoid
returns-in-Avoid g c =
    rw c.in-Avoid.is
    (forks_if g.M.Foresees.foresees c.args.program.now (differ_value sat (g.M.Situation.now c.args.at.now) c.in-Avoid.x c.in-Avoid.value c.in-Avoid.rest c.in-Avoid.aim) (g.M.Situation.now c.differ_value.new.at)
    (g.M.Situation.points c.differ_value.new.at) (g.M.Situation.points c.args.at.now) c.differ_value.result (c.differ_value.ensures c.args.program.now))
