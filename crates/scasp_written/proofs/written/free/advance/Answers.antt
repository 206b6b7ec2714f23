use Rattle.std.proofs.Common.{◌≡◌, ◌+◌, ◌<◌, Ok, arith, subst}
use Rattle.std.proofs.lemmas.List.{nil_from_length}
use Rattle.std.proofs.lemmas.Result.{err_from_is_err_and}
use Rattle.scasp_search_walk.proofs.ReachedLemmas.{reached-none}
use Rattle.scasp_written.proofs.WrittenLemmas.StackLemmas.{states_popped, total_popped}
use Rattle.scasp_written.proofs.WrittenLemmas.WalkLemmas.{passed-comes, tells-empty}
use Rattle.scasp_written.specs.Written.Inside.Heights.{height, total}
use Rattle.scasp_written.specs.Written.Inside.Reached.{IsLower, Passes}
use Rattle.scasp_search_walk.specs.Walks.{Reached}
use Rattle.scasp_written.specs.Written.Inside.Stacks.{states_of}
use Rattle.scasp_written.specs.Written.Rests.{machine, problem_in}
use Rattle.scasp_written.proofs.written.free.advance.Goals as goal

pub loop-waiting-init : goal.loop-waiting-init
loop-waiting-init c = λ budget calls.
    reached-none (machine (problem_in c.args.goal.now) c.args.goal.now.queried) budget calls (states_of c.args.stack.now.items)

pub returns-in_err-ahead : goal.returns-in_err-ahead
returns-in_err-ahead c = λ budget calls.
    let m = machine (problem_in c.args.goal.now) c.args.goal.now.queried in
    let old = states_of c.args.stack.now.items in
    let reached = subst (λ ss. Reached m budget old calls ss calls) (states_popped c.loop-waiting.stack.items c.pop.new.self.items c.in-Some.waiting c.in-Some.ensures.items) (c.loop-waiting.invariant budget calls) in
    let new = states_of c.pass.new.stack.items in
    let p = err_from_is_err_and c.from_residual.result c.from_residual.ensures.1 in
    rw (p.1, p.2) (passed-comes m budget calls old new new c.in_err-ahead.field-0.0 (c.in_err-ahead.ensures.walk budget calls old reached))

pub returns-in-Some-2 : goal.returns-in-Some-2
returns-in-Some-2 c = λ budget calls.
    let m = machine (problem_in c.args.goal.now) c.args.goal.now.queried in
    let old = states_of c.args.stack.now.items in
    let reached = subst (λ ss. Reached m budget old calls ss calls) (states_popped c.loop-waiting.stack.items c.pop.new.self.items c.in-Some.waiting c.in-Some.ensures.items) (c.loop-waiting.invariant budget calls) in
    let new = states_of c.pass.new.stack.items in
    subst (λ o. Passes m budget calls old new (Ok o)) c.in-Some-2.is (c.in_ok-ahead.ensures.walk budget calls old reached)

pub loop-waiting-preserved : goal.loop-waiting-preserved
loop-waiting-preserved c = λ budget calls.
    let m = machine (problem_in c.args.goal.now) c.args.goal.now.queried in
    let old = states_of c.args.stack.now.items in
    let reached = subst (λ ss. Reached m budget old calls ss calls) (states_popped c.loop-waiting.stack.items c.pop.new.self.items c.in-Some.waiting c.in-Some.ensures.items) (c.loop-waiting.invariant budget calls) in
    let new = states_of c.pass.new.stack.items in
    subst (λ o. Passes m budget calls old new (Ok o)) c.in_default-2.is (c.in_ok-ahead.ensures.walk budget calls old reached)

pub loop-waiting-smaller : goal.loop-waiting-smaller
loop-waiting-smaller c =
    let lower : total c.pass.new.stack.items < total c.pop.new.self.items + height c.in-Some.waiting =
    subst (λ o. IsLower (total c.pop.new.self.items + height c.in-Some.waiting) (total c.pass.new.stack.items) (Ok o)) c.in_default-2.is c.in_ok-ahead.ensures.height in
    let all = total_popped c.loop-waiting.stack.items c.pop.new.self.items c.in-Some.waiting c.in-Some.ensures.items in
    omega (arith, lower, all)

pub returns : goal.returns
returns c = λ budget calls.
    let m = machine (problem_in c.args.goal.now) c.args.goal.now.queried in
    let old = states_of c.args.stack.now.items in
    let empty = rw c.in_default.is at c.pop.ensures.cases in
    tells-empty m budget calls old c.loop-waiting.stack.items c.pop.new.self.items (nil_from_length _ (omega (arith, empty.0))) (nil_from_length _ (omega (arith, empty.1)))
    (c.loop-waiting.invariant budget calls)
