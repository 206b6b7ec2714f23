use Rattle.std.specs.Prelude.{Ok, Err}
use Rattle.std.proofs.Common.{◌∙◌, ap, arith, refl, subst}
use Rattle.std.proofs.lemmas.Result.{err_from_is_err_and}
use Rattle.scasp_search_walk.proofs.PassLemmas.{meets-later, passed-arrives}
use Rattle.scasp_search_walk.proofs.ReachedLemmas.{reached-both, reached-none}
use Rattle.scasp_search_walk.specs.Inside.{Passes}
use Rattle.scasp_search_walk.proofs.ahead.arrive.Goals as goal

pub loop-ahead-init : goal.loop-ahead-init
loop-ahead-init g c = record {
  steps = omega arith;
  same = refl;
  reached = λ budget calls. reached-none (g.F.Frontier.machine (g.F.Frontier.problem c.args.front.now)) budget calls (g.F.Frontier.states c.args.front.now);
}

pub returns-in_err-ahead-clause-arrives : goal.returns-in_err-ahead-clause-arrives
returns-in_err-ahead-clause-arrives g c = λ budget calls.
    let v = g.F.Frontier.value_of in
    let m = g.F.Frontier.machine (g.F.Frontier.problem c.args.front.now) in
    let old = g.F.Frontier.states c.args.front.now in
    let between = g.F.Frontier.states c.loop-ahead.front in
    let new = g.F.Frontier.states c.pass.new.front in
    let e = c.in_err-ahead.field-0.0 in
    let p = err_from_is_err_and c.from_residual.result c.from_residual.ensures.1 in
    let passes = subst (λ n. Passes v n budget calls between new (Err e)) (ap g.F.Frontier.machine c.loop-ahead.invariant.same) (c.in_err-ahead.ensures.passes budget calls) in
    rw (p.1, p.2) (passed-arrives v m budget calls old between new new e (c.loop-ahead.invariant.reached budget calls) passes)

pub returns-in-Some-clause-arrives : goal.returns-in-Some-clause-arrives
returns-in-Some-clause-arrives g c = λ budget calls.
    let v = g.F.Frontier.value_of in
    let m = g.F.Frontier.machine (g.F.Frontier.problem c.args.front.now) in
    let old = g.F.Frontier.states c.args.front.now in
    let between = g.F.Frontier.states c.loop-ahead.front in
    let new = g.F.Frontier.states c.pass.new.front in
    let passes = subst (λ n. Passes v n budget calls between new (Ok c.in_ok-ahead.field-0)) (ap g.F.Frontier.machine c.loop-ahead.invariant.same) (c.in_ok-ahead.ensures.passes budget calls) in
    let meets = subst (λ o. Passes v m budget calls between new (Ok o)) c.in-Some.is passes in
    meets-later v m budget calls old between new c.in-Some.ahead (c.loop-ahead.invariant.reached budget calls) meets

pub loop-ahead-preserved : goal.loop-ahead-preserved
loop-ahead-preserved g c = record {
  steps = omega (arith, c.loop-ahead.invariant.steps, c.if-steps.false);
  same = c.in_ok-ahead.ensures.same ∙ c.loop-ahead.invariant.same;
  reached = λ budget calls.
      let v = g.F.Frontier.value_of in
      let m = g.F.Frontier.machine (g.F.Frontier.problem c.args.front.now) in
      let old = g.F.Frontier.states c.args.front.now in
      let between = g.F.Frontier.states c.loop-ahead.front in
      let new = g.F.Frontier.states c.pass.new.front in
      let passes = subst (λ n. Passes v n budget calls between new (Ok c.in_ok-ahead.field-0)) (ap g.F.Frontier.machine c.loop-ahead.invariant.same) (c.in_ok-ahead.ensures.passes budget calls) in
      let on = subst (λ o. Passes v m budget calls between new (Ok o)) c.in_default.is passes in
      reached-both m budget calls calls calls old between new (c.loop-ahead.invariant.reached budget calls) on;
}
