use Rattle.std.proofs.Common.{◌≡◌, ℕ, List, ap, length, ◌∙◌}
use Rattle.scasp_hint.specs.Satisfying.{sat}
use Rattle.scasp_search_rules.specs.declared.states.tasks.Task.{Task}
use Rattle.scasp_search_rules.specs.Successors.Equations.{becomes_shape, equations}
use Rattle.scasp_search_rules.specs.Successors.Variables.{next_variable}
use Rattle.scasp_syntax.specs.Tm.{Tms, items}
use Rattle.scasp_unify.specs.Negations.{new_parts}
use Rattle.scasp_search_assuming.proofs.GoingLemmas.{none_in_front, one_in_front}
use Rattle.scasp_search_assuming.proofs.shapes.shaped_by.Goals as goal

-- the equations of new variables, by what their numbers are
numbered_equations : (k m n j : ℕ) (ps ts : Tms) (es : List Task) → es ≡ equations ps ts → ps ≡ new_parts k n → k ≡ m → n ≡ j → es ≡ equations (new_parts m j) ts
numbered_equations k m n j ps ts es e p q r = e ∙ ap (λ us. equations us ts) (p ∙ (ap (λ i. new_parts i n) q ∙ ap (new_parts m) r))

pub returns-then-not-branch-clause-now : goal.returns-then-not-branch-clause-now
returns-then-not-branch-clause-now g c =
    none_in_front (becomes_shape sat (g.M.Situation.now c.args.at.now) c.args.x c.args.name) (g.M.Situation.now c.becomes_shape.new.at) c.len-2.result (length (items c.args.args.now)) c.in_ok-becomes_shape.field-0
    (equations (new_parts (next_variable (g.M.Situation.now c.args.at.now)) (length (items c.args.args.now))) c.args.args.now)
    c.in_ok-becomes_shape.ensures.now c.if-not-branch.true c.len-2.ensures

pub returns-clause-now : goal.returns-clause-now
returns-clause-now g c =
    one_in_front (becomes_shape sat (g.M.Situation.now c.args.at.now) c.args.x c.args.name) (g.M.Situation.now c.becomes_shape.new.at) (g.M.Situation.now c.put_all.new.self) c.len-2.result (length (items c.args.args.now))
    c.in_ok-becomes_shape.field-0 c.in_ok-equations.equations (equations (new_parts (next_variable (g.M.Situation.now c.args.at.now)) (length (items c.args.args.now))) c.args.args.now)
    c.in_ok-becomes_shape.ensures.now c.if-not-branch.false c.len-2.ensures
    (numbered_equations c.next_variable.result (next_variable (g.M.Situation.now c.args.at.now)) c.len.result (length (items c.args.args.now)) c.in_ok-parts.parts c.args.args.now c.in_ok-equations.equations
    c.in_ok-equations.ensures c.in_ok-parts.ensures c.next_variable.ensures c.len.ensures)
    c.in_ok-put_all.ensures.now
