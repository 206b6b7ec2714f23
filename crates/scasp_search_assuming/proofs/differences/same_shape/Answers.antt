use Rattle.std.proofs.Common.{[], ◌∷◌, ◌++◌, ap, length}
use Rattle.scasp_hint.specs.Satisfying.{sat}
use Rattle.scasp_search_rules.specs.declared.states.tasks.Task.TheVariants as task
use Rattle.scasp_search_rules.specs.Successors.Equations.{becomes_shape}
use Rattle.scasp_search_rules.specs.Successors.Pairs.{pairs}
use Rattle.scasp_search_rules.specs.Successors.Variables.{next_variable}
use Rattle.scasp_syntax.specs.Tm.{items}
use Rattle.scasp_unify.specs.Negations.{new_parts}
use Rattle.scasp_search_assuming.proofs.GoingLemmas.{none_in_front, one_in_front}
use Rattle.scasp_search_assuming.proofs.differences.same_shape.Goals as goal

pub returns-then-not-branch-clause-now : goal.returns-then-not-branch-clause-now
returns-then-not-branch-clause-now g c =
    none_in_front (becomes_shape sat (g.M.Situation.now c.args.at.now) c.args.x c.args.name) (g.M.Situation.now c.becomes_shape.new.at) c.len.result (length (items c.args.args.now)) c.in_ok-becomes_shape.field-0
    (task.Differ (pairs (new_parts (next_variable (g.M.Situation.now c.args.at.now)) (length (items c.args.args.now))) c.args.args.now ++ c.args.rest) c.args.aim ∷ [])
    c.in_ok-becomes_shape.ensures.now c.if-not-branch.true c.len.ensures

pub returns-clause-now : goal.returns-clause-now
returns-clause-now g c =
    one_in_front (becomes_shape sat (g.M.Situation.now c.args.at.now) c.args.x c.args.name) (g.M.Situation.now c.becomes_shape.new.at) (g.M.Situation.now c.put.new.self) c.len.result _
    c.in_ok-becomes_shape.field-0 (task.Differ c.in_ok-pairs.pairs c.args.aim ∷ []) _
    c.in_ok-becomes_shape.ensures.now c.if-not-branch.false c.len.ensures (ap (λ ps. task.Differ ps c.args.aim ∷ []) c.in_ok-pairs.ensures) c.in_ok-put.ensures.now
