use Rattle.std.proofs.Common.{◌≡◌, ◌+◌, sym, ap, ◌∙◌, arith, drop}
use Rattle.scasp_reader_tokens.specs.Bytes.{farther}
use Rattle.scasp_reader_tokens.specs.Comments.{length_before_end}
use Rattle.scasp_reader_tokens.proofs.Walks.{some_left, walk, found}
use Rattle.scasp_reader_tokens.proofs.CommentLemmas.{length_before_end-passed, length_before_end-found}
use Rattle.scasp_reader_tokens.proofs.comments.block_len.Goals as goal

pub loop-at-preserved : goal.loop-at-preserved
loop-at-preserved c =
    let rest = c.behind-rest.result.now in
    let at = c.loop-at.at in
    let bytes = c.args.bytes.now in
    let left = some_left bytes rest at c.behind-rest.ensures c.loop-at-test.true in
    let e : at + 1 + 2 ≡ at + 2 + 1 = omega arith in
    ap (λ p. farther p (length_before_end (drop (at + 1) bytes))) e
    ∙ walk bytes rest at c.behind-rest.ensures length_before_end (at + 2) _ c.loop-at.invariant 1 (length_before_end-passed rest left (sym c.starts_with.ensures.value ∙ c.if-starts_with.false))

pub returns-then-starts_with-clause-length : goal.returns-then-starts_with-clause-length
returns-then-starts_with-clause-length c =
    let rest = c.behind-rest.result.now in
    let at = c.loop-at.at in
    let left = some_left c.args.bytes.now rest at c.behind-rest.ensures c.loop-at-test.true in
    found c.args.bytes.now rest at c.behind-rest.ensures length_before_end (at + 2) _ c.loop-at.invariant (length_before_end-found rest left (sym c.starts_with.ensures.value ∙ c.if-starts_with.true))
