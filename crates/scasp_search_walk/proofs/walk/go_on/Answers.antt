use Rattle.std.specs.Prelude.{Ok, Err}
use Rattle.std.proofs.Common.{◌≡◌, ◌+◌, ◌<◌, ◌∙◌, arith, ap, refl, subst}
use Rattle.std.proofs.lemmas.Result.{err_from_is_err_and}
use Rattle.scasp_search_walk.proofs.LaterLemmas.{tells-later}
use Rattle.scasp_search_walk.proofs.ReachedLemmas.{reached-both, reached-none}
use Rattle.scasp_search_walk.proofs.SliceLemmas.{arrives-fails, needs-more, paid-fails, paid-reached, spent-first}
use Rattle.scasp_search_rules.specs.Successors.Machine.{answered, ended}
use Rattle.scasp_search_walk.specs.Inside.{Arrives, Meets}
use Rattle.scasp_search_walk.specs.Slices.{Steps}
use Rattle.scasp_search_walk.proofs.walk.go_on.Goals as goal

pub loop-answer-init : goal.loop-answer-init
loop-answer-init g c = record {
  within = c.requires;
  few = omega arith;
  spent = omega arith;
  same = refl;
  reached = reached-none (g.F.Frontier.machine (g.F.Frontier.problem c.args.front.now)) c.args.budget c.args.calls.now (g.F.Frontier.states c.args.front.now);
}

pub returns-in_err-answer-clause-finishes : goal.returns-in_err-answer-clause-finishes
returns-in_err-answer-clause-finishes g c =
    let v = g.F.Frontier.value_of in
    let m = g.F.Frontier.machine (g.F.Frontier.problem c.args.front.now) in
    let old = g.F.Frontier.states c.args.front.now in
    let between = g.F.Frontier.states c.loop-answer.front in
    let new = g.F.Frontier.states c.arrive.new.front in
    let calls = c.loop-answer.calls in
    let budget = c.args.budget in
    let e = c.in_err-answer.field-0.0 in
    let p = err_from_is_err_and c.from_residual.result c.from_residual.ensures.1 in
    let arrives = subst (λ n. Arrives v n budget calls between new (Err e)) (ap g.F.Frontier.machine c.loop-answer.invariant.same) (c.in_err-answer.ensures.arrives budget calls) in
    rw (p.1, p.2) (arrives-fails v m budget c.args.calls.now calls c.args.slice calls old between new new e c.loop-answer.invariant.reached arrives)

pub returns-in-Answer-clause-finishes : goal.returns-in-Answer-clause-finishes
returns-in-Answer-clause-finishes g c =
    let v = g.F.Frontier.value_of in
    let m = g.F.Frontier.machine (g.F.Frontier.problem c.args.front.now) in
    let old = g.F.Frontier.states c.args.front.now in
    let between = g.F.Frontier.states c.loop-answer.front in
    let new = g.F.Frontier.states c.arrive.new.front in
    let calls = c.loop-answer.calls in
    let budget = c.args.budget in
    let arrives = subst (λ n. Arrives v n budget calls between new (Ok c.in_ok-answer.field-0)) (ap g.F.Frontier.machine c.loop-answer.invariant.same) (c.in_ok-answer.ensures.arrives budget calls) in
    let meets = subst (λ a. Meets v m budget calls between new a) c.in-Answer.is arrives in (
      tells-later m budget c.args.calls.now calls calls old between new (answered (v c.in-Answer.answer)) c.loop-answer.invariant.reached meets,
      omega (arith, c.loop-answer.invariant.spent, c.loop-answer.invariant.few),
      refl,
    )

pub returns-in-Ended-clause-finishes : goal.returns-in-Ended-clause-finishes
returns-in-Ended-clause-finishes g c =
    let v = g.F.Frontier.value_of in
    let m = g.F.Frontier.machine (g.F.Frontier.problem c.args.front.now) in
    let old = g.F.Frontier.states c.args.front.now in
    let between = g.F.Frontier.states c.loop-answer.front in
    let new = g.F.Frontier.states c.arrive.new.front in
    let calls = c.loop-answer.calls in
    let budget = c.args.budget in
    let arrives = subst (λ n. Arrives v n budget calls between new (Ok c.in_ok-answer.field-0)) (ap g.F.Frontier.machine c.loop-answer.invariant.same) (c.in_ok-answer.ensures.arrives budget calls) in
    let meets = subst (λ a. Meets v m budget calls between new a) c.in-Ended.is arrives in (
      tells-later m budget c.args.calls.now calls calls old between new ended c.loop-answer.invariant.reached meets,
      omega (arith, c.loop-answer.invariant.spent, c.loop-answer.invariant.few),
      refl,
    )

pub returns-then-calls-budget-clause-finishes : goal.returns-then-calls-budget-clause-finishes
returns-then-calls-budget-clause-finishes g c =
    let v = g.F.Frontier.value_of in
    let m = g.F.Frontier.machine (g.F.Frontier.problem c.args.front.now) in
    let old = g.F.Frontier.states c.args.front.now in
    let between = g.F.Frontier.states c.loop-answer.front in
    let new = g.F.Frontier.states c.arrive.new.front in
    let calls = c.loop-answer.calls in
    let budget = c.args.budget in
    let arrives = subst (λ n. Arrives v n budget calls between new (Ok c.in_ok-answer.field-0)) (ap g.F.Frontier.machine c.loop-answer.invariant.same) (c.in_ok-answer.ensures.arrives budget calls) in
    let here = subst (λ a. Meets v m budget calls between new a) c.in-Pays.is arrives in
    let reached = reached-both m budget c.args.calls.now calls calls old between new c.loop-answer.invariant.reached here.0 in (
      spent-first m budget c.args.calls.now calls old new reached here.1 c.if-calls-budget.true,
      omega (arith, c.loop-answer.invariant.spent, c.loop-answer.invariant.few),
      refl,
    )

pub returns-then-spent-slice-clause-finishes : goal.returns-then-spent-slice-clause-finishes
returns-then-spent-slice-clause-finishes g c =
    let v = g.F.Frontier.value_of in
    let m = g.F.Frontier.machine (g.F.Frontier.problem c.args.front.now) in
    let old = g.F.Frontier.states c.args.front.now in
    let between = g.F.Frontier.states c.loop-answer.front in
    let new = g.F.Frontier.states c.arrive.new.front in
    let calls = c.loop-answer.calls in
    let budget = c.args.budget in
    let arrives = subst (λ n. Arrives v n budget calls between new (Ok c.in_ok-answer.field-0)) (ap g.F.Frontier.machine c.loop-answer.invariant.same) (c.in_ok-answer.ensures.arrives budget calls) in
    let here = subst (λ a. Meets v m budget calls between new a) c.in-Pays.is arrives in
    let reached = reached-both m budget c.args.calls.now calls calls old between new c.loop-answer.invariant.reached here.0 in
    let all : calls ≡ c.args.calls.now + c.args.slice = c.loop-answer.invariant.spent ∙ ap (λ n. c.args.calls.now + n) c.if-spent-slice.true in
    (reached, (all, λ found finds. subst (λ n. n < found.calls) all (needs-more m budget c.args.calls.now calls old new reached here.1 c.if-calls-budget.false found finds)), refl)

pub loop-answer-preserved : goal.loop-answer-preserved
loop-answer-preserved g c =
    let v = g.F.Frontier.value_of in
    let m = g.F.Frontier.machine (g.F.Frontier.problem c.args.front.now) in
    let old = g.F.Frontier.states c.args.front.now in
    let between = g.F.Frontier.states c.loop-answer.front in
    let new = g.F.Frontier.states c.arrive.new.front in
    let next = g.F.Frontier.states c.step.new.self in
    let calls = c.loop-answer.calls in
    let budget = c.args.budget in
    let arrives = subst (λ n. Arrives v n budget calls between new (Ok c.in_ok-answer.field-0)) (ap g.F.Frontier.machine c.loop-answer.invariant.same) (c.in_ok-answer.ensures.arrives budget calls) in
    let here = subst (λ a. Meets v m budget calls between new a) c.in-Pays.is arrives in
    let reached = reached-both m budget c.args.calls.now calls calls old between new c.loop-answer.invariant.reached here.0 in
    let same = c.in_ok-answer.ensures.same ∙ c.loop-answer.invariant.same in
    let steps = subst (λ n. Steps n new next (Ok record {})) (ap g.F.Frontier.machine same) c.in_ok-step-in-Pays.ensures.steps in
    record {
      within = omega (arith, c.loop-answer.invariant.within, c.if-calls-budget.false);
      few = omega (arith, c.loop-answer.invariant.few, c.if-spent-slice.false);
      spent = omega (arith, c.loop-answer.invariant.spent);
      same = c.in_ok-step-in-Pays.ensures.same ∙ same;
      reached = paid-reached m budget c.args.calls.now calls old new next reached here.1 c.if-calls-budget.false steps;
    }

pub returns-in_err-step-in-Pays-clause-finishes : goal.returns-in_err-step-in-Pays-clause-finishes
returns-in_err-step-in-Pays-clause-finishes g c =
    let v = g.F.Frontier.value_of in
    let m = g.F.Frontier.machine (g.F.Frontier.problem c.args.front.now) in
    let old = g.F.Frontier.states c.args.front.now in
    let between = g.F.Frontier.states c.loop-answer.front in
    let new = g.F.Frontier.states c.arrive.new.front in
    let next = g.F.Frontier.states c.step.new.self in
    let calls = c.loop-answer.calls in
    let budget = c.args.budget in
    let e = c.in_err-step-in-Pays.field-0.0 in
    let p = err_from_is_err_and c.from_residual-in_err-step-in-Pays.result c.from_residual-in_err-step-in-Pays.ensures.1 in
    let arrives = subst (λ n. Arrives v n budget calls between new (Ok c.in_ok-answer.field-0)) (ap g.F.Frontier.machine c.loop-answer.invariant.same) (c.in_ok-answer.ensures.arrives budget calls) in
    let here = subst (λ a. Meets v m budget calls between new a) c.in-Pays.is arrives in
    let reached = reached-both m budget c.args.calls.now calls calls old between new c.loop-answer.invariant.reached here.0 in
    let steps = subst (λ n. Steps n new next (Err e)) (ap g.F.Frontier.machine (c.in_ok-answer.ensures.same ∙ c.loop-answer.invariant.same)) c.in_err-step-in-Pays.ensures.steps in
    rw (p.1, p.2) (paid-fails v m budget c.args.calls.now calls c.args.slice (calls + 1) old new next next e reached here.1 c.if-calls-budget.false steps)
