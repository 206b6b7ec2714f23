use Rattle.std.specs.Prelude.{Ok, Err}
use Rattle.std.proofs.Common.{ap, subst}
use Rattle.std.proofs.lemmas.Result.{err_from_is_err_and}
use Rattle.scasp_search_walk.proofs.PassLemmas.{look-answer, look-ended, look-fails, look-nothing, look-pays, step-fails, steps-free}
use Rattle.scasp_search_walk.specs.Slices.{Sees, Steps}
use Rattle.scasp_search_walk.proofs.ahead.pass.Goals as goal

pub returns-in_err-look-clause-passes : goal.returns-in_err-look-clause-passes
returns-in_err-look-clause-passes g c = λ budget calls.
    let v = g.F.Frontier.value_of in
    let m = g.F.Frontier.machine (g.F.Frontier.problem c.args.front.now) in
    let old = g.F.Frontier.states c.args.front.now in
    let between = g.F.Frontier.states c.look.new.self in
    let p = err_from_is_err_and c.from_residual.result c.from_residual.ensures.1 in
    rw (p.1, p.2) (look-fails v m budget calls old between between c.in_err-look.field-0.0 c.in_err-look.ensures.sees)

pub returns-in_err-step-in-Free-clause-passes : goal.returns-in_err-step-in-Free-clause-passes
returns-in_err-step-in-Free-clause-passes g c = λ budget calls.
    let v = g.F.Frontier.value_of in
    let m = g.F.Frontier.machine (g.F.Frontier.problem c.args.front.now) in
    let old = g.F.Frontier.states c.args.front.now in
    let between = g.F.Frontier.states c.look.new.self in
    let new = g.F.Frontier.states c.step.new.self in
    let e = c.in_err-step-in-Free.field-0.0 in
    let p = err_from_is_err_and c.from_residual-in_err-step-in-Free.result c.from_residual-in_err-step-in-Free.ensures.1 in
    let sees = subst (λ l. Sees v m old between (Ok l)) c.in-Free.is c.in_ok-look.ensures.sees in
    let steps = subst (λ n. Steps n between new (Err e)) (ap g.F.Frontier.machine c.in_ok-look.ensures.same) c.in_err-step-in-Free.ensures.steps in
    rw (p.1, p.2) (step-fails v m budget calls old between new new e sees steps)

pub returns-in_ok-step-in-Free-clause-passes : goal.returns-in_ok-step-in-Free-clause-passes
returns-in_ok-step-in-Free-clause-passes g c = λ budget calls.
    let v = g.F.Frontier.value_of in
    let m = g.F.Frontier.machine (g.F.Frontier.problem c.args.front.now) in
    let old = g.F.Frontier.states c.args.front.now in
    let between = g.F.Frontier.states c.look.new.self in
    let new = g.F.Frontier.states c.step.new.self in
    let sees = subst (λ l. Sees v m old between (Ok l)) c.in-Free.is c.in_ok-look.ensures.sees in
    let steps = subst (λ n. Steps n between new (Ok record {})) (ap g.F.Frontier.machine c.in_ok-look.ensures.same) c.in_ok-step-in-Free.ensures.steps in
    steps-free v m budget calls old between new sees steps

pub returns-in-Answer-clause-passes : goal.returns-in-Answer-clause-passes
returns-in-Answer-clause-passes g c = λ budget calls.
    let v = g.F.Frontier.value_of in
    let m = g.F.Frontier.machine (g.F.Frontier.problem c.args.front.now) in
    let old = g.F.Frontier.states c.args.front.now in
    let new = g.F.Frontier.states c.look.new.self in
    look-answer v m budget calls old new c.in-Answer.answer (subst (λ l. Sees v m old new (Ok l)) c.in-Answer.is c.in_ok-look.ensures.sees)

pub returns-in-Nothing-clause-passes : goal.returns-in-Nothing-clause-passes
returns-in-Nothing-clause-passes g c = λ budget calls.
    let v = g.F.Frontier.value_of in
    let m = g.F.Frontier.machine (g.F.Frontier.problem c.args.front.now) in
    let old = g.F.Frontier.states c.args.front.now in
    let new = g.F.Frontier.states c.look.new.self in
    look-nothing v m budget calls old new (subst (λ l. Sees v m old new (Ok l)) c.in-Nothing.is c.in_ok-look.ensures.sees)

pub returns-in-Pays-clause-passes : goal.returns-in-Pays-clause-passes
returns-in-Pays-clause-passes g c = λ budget calls.
    let v = g.F.Frontier.value_of in
    let m = g.F.Frontier.machine (g.F.Frontier.problem c.args.front.now) in
    let old = g.F.Frontier.states c.args.front.now in
    let new = g.F.Frontier.states c.look.new.self in
    look-pays v m budget calls old new (subst (λ l. Sees v m old new (Ok l)) c.in-Pays.is c.in_ok-look.ensures.sees)

pub returns-in-Ended-clause-passes : goal.returns-in-Ended-clause-passes
returns-in-Ended-clause-passes g c = λ budget calls.
    let v = g.F.Frontier.value_of in
    let m = g.F.Frontier.machine (g.F.Frontier.problem c.args.front.now) in
    let old = g.F.Frontier.states c.args.front.now in
    let new = g.F.Frontier.states c.look.new.self in
    look-ended v m budget calls old new (subst (λ l. Sees v m old new (Ok l)) c.in-Ended.is c.in_ok-look.ensures.sees)
