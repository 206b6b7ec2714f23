use Rattle.std.proofs.Common.{◌≡◌, ◌∙◌, ◌-◌, ℕ, Option, Some, ap, unwrap_or}
use Rattle.scasp_serve_replies.proofs.GoingLemmas.{found-behind, found-here, left_in}
use Rattle.scasp_sessions.specs.Tables.{calls_in}
use Rattle.scasp_serve_replies.proofs.slices.go_on.Goals as goal

pub returns-in-Comes : goal.returns-in-Comes
returns-in-Comes c =
    c.loop-tree.invariant (Some c.in-Comes.coming) c.next.new.self
    (found-here c.args.program.now c.loop-tree.sessions c.next.new.self c.args.id c.loop-tree.left c.in-Ok.advance c.in-Comes.coming
    c.in-Ok.ensures.reply (rw c.in-Comes.is at c.in_ok-coming.ensures))

pub loop-tree-preserved : goal.loop-tree-preserved
loop-tree-preserved c =
    let left = c.loop-tree.left in
    let is : c.left_of-left.result ≡ left_in c.args.id left c.loop-tree.sessions c.next.new.self =
    c.left_of-left.ensures ∙ ap (λ (o : Option ℕ). left - (unwrap_or o 0 - unwrap_or c.calls-before.result 0)) c.calls.ensures
    ∙ ap (λ (o : Option ℕ). left - (unwrap_or (calls_in c.args.id c.next.new.self) 0 - unwrap_or o 0)) c.calls-before.ensures in
    λ found new h.
    c.loop-tree.invariant found new
    (found-behind c.args.program.now c.loop-tree.sessions c.next.new.self c.args.id left c.left_of-left.result c.in-Ok.advance found new
    c.in-Ok.ensures.reply (rw c.in-Passes.is at c.in_ok-coming.ensures) is h)
