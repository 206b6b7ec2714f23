use Rattle.std.proofs.Common.{◌≤◌, arith, length, refl, subst}
use Rattle.scasp_extend_levels.specs.Scenes.{inside, read}
use Rattle.scasp_extend_levels.proofs.SignLemmas.{begins-empty, ended, enough, few-read, goes-on, same-inside}
use Rattle.scasp_worklist.specs.Numbered.{IsLeast, has}
use Rattle.scasp_extend_levels.proofs.signs.plus_model.Goals as goal

pub loop-step-init : goal.loop-step-init
loop-step-init c = λ s. begins-empty s (has c.in_ok-plus.plus) (subst (λ rs. IsLeast rs (has c.in_ok-plus.plus)) c.new-none.ensures c.in_ok-plus.ensures)

pub returns-then-are_same_below : goal.returns-then-are_same_below
returns-then-are_same_below c =
    λ s. ended s.plus (read s) c.loop-step._step (inside s (has c.loop-step.plus)) (inside s (has c.in_ok-next.next)) (c.loop-step.invariant s)
    (c.in_ok-next.ensures s) (same-inside s (has c.loop-step.plus) (has c.in_ok-next.next) (length c.args.standings.now) refl (c.are_same_below.ensures c.if-are_same_below.true))

pub loop-step-preserved : goal.loop-step-preserved
loop-step-preserved c =
    λ s. goes-on s.plus (read s) c.loop-step._step (inside s (has c.loop-step.plus)) (inside s (has c.in_ok-next.next)) (c.loop-step.invariant s) (c.in_ok-next.ensures s)

pub returns : goal.returns
returns c =
    λ s.
    let few = few-read s in
    let all : length (read s) ≤ c.loop-step._step = omega (arith, few, c.loop-step-test.false) in
    enough s.plus (read s) c.loop-step._step (inside s (has c.loop-step.plus)) all (c.loop-step.invariant s)
