use Rattle.std.proofs.Common.{◌≡◌, ◌+◌, ◌≤◌, arith, subst}
use Rattle.std.proofs.lemmas.Result.{err_from_is_err_and}
use Rattle.scasp_cert.specs.Certificate.{certificate_of}
use Rattle.scasp_search_walk.proofs.LaterLemmas.{tells-later}
use Rattle.scasp_search_walk.proofs.ReachedLemmas.{reached-both, reached-none}
use Rattle.scasp_written.proofs.WrittenLemmas.WalkLemmas.{comes-later, paid-overflow, paid-reached}
use Rattle.scasp_search_walk.proofs.SliceLemmas.{spent-first}
use Rattle.scasp_written.specs.Written.Inside.Reached.{Meets}
use Rattle.scasp_search_walk.specs.Walks.{Reached}
use Rattle.scasp_written.specs.Written.Inside.Stacks.{states_of}
use Rattle.scasp_written.specs.Written.Rests.{machine, problem_in}
use Rattle.scasp_search_rules.specs.Successors.Machine.{answered, ended}
use Rattle.scasp_written.proofs.written.walk.first_event.Goals as goal

pub loop-cert-init : goal.loop-cert-init
loop-cert-init c = record {
  within = c.requires;
  reached = reached-none (machine (problem_in c.args.goal.now) c.args.goal.now.queried) c.args.budget c.args.calls.now (states_of c.args.stack.now.items);
}

pub returns-in_err-cert-clause-event : goal.returns-in_err-cert-clause-event
returns-in_err-cert-clause-event c =
    let m = machine (problem_in c.args.goal.now) c.args.goal.now.queried in
    let old = states_of c.args.stack.now.items in
    let between = states_of c.loop-cert.stack.items in
    let new = states_of c.advance.new.stack.items in
    let calls = c.loop-cert.calls in
    let budget = c.args.budget in
    let p = err_from_is_err_and c.from_residual.result c.from_residual.ensures.1 in
    rw (p.1, p.2) (comes-later m budget c.args.calls.now calls old between new calls new c.in_err-cert.field-0.0 c.loop-cert.invariant.reached (c.in_err-cert.ensures budget calls))

pub returns-in-Answer-clause-event : goal.returns-in-Answer-clause-event
returns-in-Answer-clause-event c =
    let m = machine (problem_in c.args.goal.now) c.args.goal.now.queried in
    let old = states_of c.args.stack.now.items in
    let between = states_of c.loop-cert.stack.items in
    let new = states_of c.advance.new.stack.items in
    let calls = c.loop-cert.calls in
    let budget = c.args.budget in
    tells-later m budget c.args.calls.now calls calls old between new (answered (certificate_of c.in-Answer.cert)) c.loop-cert.invariant.reached
    (subst (λ a. Meets m budget calls between new a) c.in-Answer.is (c.in_ok-cert.ensures budget calls))

pub returns-in-Ended-clause-event : goal.returns-in-Ended-clause-event
returns-in-Ended-clause-event c =
    let m = machine (problem_in c.args.goal.now) c.args.goal.now.queried in
    let old = states_of c.args.stack.now.items in
    let between = states_of c.loop-cert.stack.items in
    let new = states_of c.advance.new.stack.items in
    let calls = c.loop-cert.calls in
    let budget = c.args.budget in
    tells-later m budget c.args.calls.now calls calls old between new ended c.loop-cert.invariant.reached
    (subst (λ a. Meets m budget calls between new a) c.in-Ended.is (c.in_ok-cert.ensures budget calls))

pub returns-then-calls-budget-clause-event : goal.returns-then-calls-budget-clause-event
returns-then-calls-budget-clause-event c =
    let m = machine (problem_in c.args.goal.now) c.args.goal.now.queried in
    let old = states_of c.args.stack.now.items in
    let between = states_of c.loop-cert.stack.items in
    let new = states_of c.advance.new.stack.items in
    let calls = c.loop-cert.calls in
    let budget = c.args.budget in
    let here = subst (λ a. Meets m budget calls between new a) c.in-Pays.is (c.in_ok-cert.ensures budget calls) in
    let reached = reached-both m budget c.args.calls.now calls calls old between new c.loop-cert.invariant.reached here.0 in
    spent-first m budget c.args.calls.now calls old new reached here.1 c.if-calls-budget.true

pub returns-in_err-pay-in-Pays-clause-event : goal.returns-in_err-pay-in-Pays-clause-event
returns-in_err-pay-in-Pays-clause-event c =
    let m = machine (problem_in c.args.goal.now) c.args.goal.now.queried in
    let old = states_of c.args.stack.now.items in
    let between = states_of c.loop-cert.stack.items in
    let new = states_of c.advance.new.stack.items in
    let calls = c.loop-cert.calls in
    let budget = c.args.budget in
    let here = subst (λ a. Meets m budget calls between new a) c.in-Pays.is (c.in_ok-cert.ensures budget calls) in
    let reached = reached-both m budget c.args.calls.now calls calls old between new c.loop-cert.invariant.reached here.0 in
    let p = err_from_is_err_and c.from_residual-in_err-pay-in-Pays.result c.from_residual-in_err-pay-in-Pays.ensures.1 in
    rw (p.1, p.2)
    (paid-overflow m budget c.args.calls.now calls old new (states_of c.pay.new.stack.items) (calls + 1) (states_of c.pay.new.stack.items) c.in_err-pay-in-Pays.field-0.0 reached here.1
    c.if-calls-budget.false c.in_err-pay-in-Pays.ensures)

pub loop-cert-preserved : goal.loop-cert-preserved
loop-cert-preserved c =
    let m = machine (problem_in c.args.goal.now) c.args.goal.now.queried in
    let old = states_of c.args.stack.now.items in
    let between = states_of c.loop-cert.stack.items in
    let new = states_of c.advance.new.stack.items in
    let calls = c.loop-cert.calls in
    let budget = c.args.budget in
    let here = subst (λ a. Meets m budget calls between new a) c.in-Pays.is (c.in_ok-cert.ensures budget calls) in
    let reached = reached-both m budget c.args.calls.now calls calls old between new c.loop-cert.invariant.reached here.0 in
    record {
      within = omega (arith, c.loop-cert.invariant.within, c.if-calls-budget.false);
      reached = paid-reached m budget c.args.calls.now calls old new (states_of c.pay.new.stack.items) reached here.1 c.if-calls-budget.false c.in_ok-pay-in-Pays.ensures;
    }
