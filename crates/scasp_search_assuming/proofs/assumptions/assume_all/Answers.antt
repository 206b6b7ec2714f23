use Rattle.std.specs.Prelude.{Ok}
use Rattle.std.proofs.Common.{◌+◌, ◌∙◌, ap, drop, refl, subst, sym}
use Rattle.std.specs.List.{list_any}
use Rattle.std.proofs.lemmas.Result.{err_from_is_err_and}
use Rattle.scasp_search_assuming.proofs.StepLemmas.{followed-none, followed-one, overflows-later}
use Rattle.scasp_hint.specs.Finding.{overflows_in}
use Rattle.scasp_hint.specs.Satisfying.{sat}
use Rattle.scasp_search_assuming.proofs.GoingLemmas.{goes-left, goes-not}
use Rattle.scasp_search_state.specs.Going.{Goes}
use Rattle.scasp_search_rules.specs.Successors.Assumptions.{assume, assume_all}
use Rattle.scasp_syntax.proofs.Walks.{drop-at}
use Rattle.scasp_search_assuming.proofs.assumptions.assume_all.Goals as goal

pub returns-in_err-assume-clause-now : goal.returns-in_err-assume-clause-now
returns-in_err-assume-clause-now g c =
    let cs = c.args.constraints.now in
    let i = c.loop-constraint.constraint-index in
    let s = g.M.Situation.now c.loop-constraint.at in
    let t = g.M.Situation.now c.assume.new.at in
    let e = c.in_err-assume.field-0.0 in
    let p = err_from_is_err_and c.from_residual.result c.from_residual.ensures.1 in
    let now = drop-at cs i c.constraint-item.result c.constraint-item.result c.loop-constraint-test.true c.constraint-item.is refl in
    let more = goes-not e (assume sat s c.constraint-item.result) (assume_all sat (drop (i + 1) cs)) t t c.in_err-assume.ensures.now in
    rw (p.1, p.2) (goes-left e (assume_all sat (drop i cs) s) (assume_all sat cs (g.M.Situation.now c.args.at.now)) t t c.loop-constraint.invariant.overflow (rw now more))

pub returns-then-not-branch-clause-now : goal.returns-then-not-branch-clause-now
returns-then-not-branch-clause-now g c =
    let cs = c.args.constraints.now in
    let i = c.loop-constraint.constraint-index in
    let s = g.M.Situation.now c.loop-constraint.at in
    let t = g.M.Situation.now c.assume.new.at in
    let first = assume sat s c.constraint-item.result in
    let now = drop-at cs i c.constraint-item.result c.constraint-item.result c.loop-constraint-test.true c.constraint-item.is refl in
    let none = subst (λ b. Goes (Ok b) first t) c.if-not-branch.true c.in_ok-assume.ensures.now in
    sym c.loop-constraint.invariant.states ∙ ap (λ ds. (assume_all sat ds s).states) now ∙ followed-none first (assume_all sat (drop (i + 1) cs)) (sym none)

pub loop-constraint-preserved : goal.loop-constraint-preserved
loop-constraint-preserved g c =
    let cs = c.args.constraints.now in
    let i = c.loop-constraint.constraint-index in
    let s = g.M.Situation.now c.loop-constraint.at in
    let t = g.M.Situation.now c.assume.new.at in
    let first = assume sat s c.constraint-item.result in
    let later = assume_all sat (drop (i + 1) cs) in
    let now = drop-at cs i c.constraint-item.result c.constraint-item.result c.loop-constraint-test.true c.constraint-item.is refl in
    let one = sym (subst (λ b. Goes (Ok b) first t) c.if-not-branch.false c.in_ok-assume.ensures.now) in
    record {
      states = sym (followed-one first later t one) ∙ ap (λ ds. (assume_all sat ds s).states) (sym now) ∙ c.loop-constraint.invariant.states;
      overflow = λ o. c.loop-constraint.invariant.overflow (ap (λ ds. list_any overflows_in (assume_all sat ds s).asked) now ∙ overflows-later first later t one o);
      points = c.in_ok-assume.ensures.points ∙ c.loop-constraint.invariant.points;
    }
