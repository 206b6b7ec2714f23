use Rattle.std.proofs.Common.{sym, ◌∙◌, arith}
use Rattle.scasp_search_parts.proofs.TimeLemmas.{one_back, same_size}
use Rattle.scasp_search_parts.proofs.timed.Timed.undo.Goals as goal

pub loop-self-preserved : goal.loop-self-preserved
loop-self-preserved g c =
    let s = c.loop-self.self in
    let size = same_size c.self.inside.list s c.self.view_is in
    sym (one_back c.args.changes s c.back.new.self c.back.ensures.now c.back.ensures.before (omega (arith, c.loop-self-test.true, c.self.invariant, size)))
    ∙ c.loop-self.invariant
