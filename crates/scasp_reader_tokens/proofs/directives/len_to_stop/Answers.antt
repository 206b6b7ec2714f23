use Rattle.std.proofs.Common.{sym, ◌∙◌}
use Rattle.scasp_reader_tokens.specs.Directives.{length_to_stop}
use Rattle.scasp_reader_tokens.proofs.Walks.{walk}
use Rattle.scasp_reader_tokens.proofs.DirectiveLemmas.{length_to_stop-piece}
use Rattle.scasp_reader_tokens.proofs.directives.len_to_stop.Goals as goal

pub loop-at-preserved : goal.loop-at-preserved
loop-at-preserved c =
    let rest = c.behind-rest.result.now in
    let at = c.loop-at.at in
    let n = c.in_ok-at.field-0 in
    let piece = c.in_ok-at.ensures in
    walk c.args.bytes.now rest at c.behind-rest.ensures (length_to_stop 0) at _ c.loop-at.invariant n
    (length_to_stop-piece rest n (sym c.is_last_stop.ensures ∙ c.if-is_last_stop.false) piece.some piece.within (sym piece.length))
