use Rattle.std.proofs.Common.{◌≡◌, ◌+◌, ◌<◌, Err, true, false, arith, ap, sym, ◌∙◌}
use Rattle.scasp_written.proofs.WrittenLemmas.TowerLemmas.{tower-some}
use Rattle.scasp_written.proofs.WrittenLemmas.WalkLemmas.{free-overflow, lower-finished, meets-close, meets-free, passes-back, not-so}
use Rattle.scasp_written.specs.Written.Inside.Heights.{height, total}
use Rattle.scasp_written.specs.Written.Inside.Stacks.{states_of}
use Rattle.scasp_search_rules.specs.Successors.Falls.{packed, weight}
use Rattle.scasp_written.proofs.written.free.pass.Goals as goal

pub returns-then-is_empty-clause-height : goal.returns-then-is_empty-clause-height
returns-then-is_empty-clause-height c =
    lower-finished (total c.args.stack.now.items + height c.args.waiting) (total c.args.stack.now.items) c.finish.result
    (let some = tower-some (packed c.args.waiting.made (weight c.args.waiting.state.work)) in omega (arith, some))

pub returns-then-branch-clause-walk : goal.returns-then-branch-clause-walk
returns-then-branch-clause-walk c = λ budget calls old r.
    meets-close c.args.goal.now budget calls c.args.waiting.state old (states_of c.args.stack.now.items) (states_of c.args.stack.now.items) r
    (sym c.in_ok-close_overflows.ensures ∙ c.if-branch.true)

pub returns-then-pays-clause-walk : goal.returns-then-pays-clause-walk
returns-then-pays-clause-walk c = λ budget calls old r.
    passes-back c.args.goal.now budget calls c.args.waiting.state old (states_of c.args.stack.now.items) (states_of c.put_back.new.stack.items) c.put_back.result r
    (λ e. not-so c.is_empty.result (c.is_empty.ensures.1 e) c.if-is_empty.false) (sym c.in_ok-close_overflows.ensures ∙ c.if-branch.false)
    (sym c.pays.ensures ∙ c.if-pays.true) c.put_back.ensures

pub returns-in-Ok-clause-walk : goal.returns-in-Ok-clause-walk
returns-in-Ok-clause-walk c = λ budget calls old r.
    meets-free c.args.goal.now budget calls c.args.waiting.state old (states_of c.args.stack.now.items) (states_of c.push_free.new.stack.items) r
    (λ e. not-so c.is_empty.result (c.is_empty.ensures.1 e) c.if-is_empty.false) (sym c.in_ok-close_overflows.ensures ∙ c.if-branch.false)
    (sym c.pays.ensures ∙ c.if-pays.false) c.in-Ok.ensures.states

pub returns-in-Err-clause-walk : goal.returns-in-Err-clause-walk
returns-in-Err-clause-walk c = λ budget calls old r.
    free-overflow c.args.goal.now budget calls c.args.waiting.state old (states_of c.args.stack.now.items) (states_of c.push_free.new.stack.items) c.in-Err.error r
    (λ e. not-so c.is_empty.result (c.is_empty.ensures.1 e) c.if-is_empty.false) (sym c.pays.ensures ∙ c.if-pays.false) (λ o. c.in-Err.ensures.overflow (ap (λ x. Err x) o))
