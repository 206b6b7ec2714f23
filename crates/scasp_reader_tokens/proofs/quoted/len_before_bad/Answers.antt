use Rattle.std.proofs.Common.{sym, ◌∙◌}
use Rattle.scasp_reader_tokens.specs.Quoted.{length_before_bad}
use Rattle.scasp_reader_tokens.proofs.Walks.{some_left, walk, found}
use Rattle.scasp_reader_tokens.proofs.QuotedLemmas.{length_before_bad-pair, length_before_bad-plain, length_before_bad-found}
use Rattle.scasp_reader_tokens.proofs.quoted.len_before_bad.Goals as goal

pub loop-at-preserved-then-not-begins_pair : goal.loop-at-preserved-then-not-begins_pair
loop-at-preserved-then-not-begins_pair c =
    let rest = c.behind-rest.result.now in
    let at = c.loop-at.at in
    let left = some_left c.args.bytes.now rest at c.behind-rest.ensures c.loop-at-test.true in
    walk c.args.bytes.now rest at c.behind-rest.ensures length_before_bad at _ c.loop-at.invariant 1 (length_before_bad-plain rest left (sym c.begins_pair.ensures ∙ c.if-not-begins_pair.true))

pub loop-at-preserved : goal.loop-at-preserved
loop-at-preserved c =
    let rest = c.behind-rest.result.now in
    let at = c.loop-at.at in
    walk c.args.bytes.now rest at c.behind-rest.ensures length_before_bad at _ c.loop-at.invariant 2
    (length_before_bad-pair rest (sym c.begins_pair.ensures ∙ c.if-not-begins_pair.false) (sym c.is_escape.ensures ∙ c.if-is_escape.true))

pub returns-else-is_escape-clause-length : goal.returns-else-is_escape-clause-length
returns-else-is_escape-clause-length c =
    let rest = c.behind-rest.result.now in
    let at = c.loop-at.at in
    found c.args.bytes.now rest at c.behind-rest.ensures length_before_bad at _ c.loop-at.invariant
    (length_before_bad-found rest (sym c.begins_pair.ensures ∙ c.if-not-begins_pair.false) (sym c.is_escape.ensures ∙ c.if-is_escape.false))
