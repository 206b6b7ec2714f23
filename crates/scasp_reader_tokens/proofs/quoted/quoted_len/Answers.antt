use Rattle.std.proofs.Common.{sym, ◌∙◌}
use Rattle.scasp_reader_tokens.specs.Quoted.{quoted_length}
use Rattle.scasp_reader_tokens.proofs.Walks.{some_left, walk, found}
use Rattle.scasp_reader_tokens.proofs.QuotedLemmas.{quoted_length-pair, quoted_length-plain, quoted_length-end}
use Rattle.scasp_reader_tokens.proofs.quoted.quoted_len.Goals as goal

pub loop-at-preserved-then-begins_pair : goal.loop-at-preserved-then-begins_pair
loop-at-preserved-then-begins_pair c =
    let rest = c.behind-rest.result.now in
    let at = c.loop-at.at in
    walk c.args.bytes.now rest at c.behind-rest.ensures quoted_length at _ c.loop-at.invariant 2 (quoted_length-pair rest (sym c.begins_pair.ensures ∙ c.if-begins_pair.true))

pub loop-at-preserved : goal.loop-at-preserved
loop-at-preserved c =
    let rest = c.behind-rest.result.now in
    let at = c.loop-at.at in
    let left = some_left c.args.bytes.now rest at c.behind-rest.ensures c.loop-at-test.true in
    walk c.args.bytes.now rest at c.behind-rest.ensures quoted_length at _ c.loop-at.invariant 1 (quoted_length-plain rest left (sym c.begins_pair.ensures ∙ c.if-begins_pair.false) c.if-rest-eq39.false)

pub returns-then-rest-eq39-clause-length : goal.returns-then-rest-eq39-clause-length
returns-then-rest-eq39-clause-length c =
    let rest = c.behind-rest.result.now in
    let at = c.loop-at.at in
    let left = some_left c.args.bytes.now rest at c.behind-rest.ensures c.loop-at-test.true in
    found c.args.bytes.now rest at c.behind-rest.ensures quoted_length at _ c.loop-at.invariant (quoted_length-end rest left (sym c.begins_pair.ensures ∙ c.if-begins_pair.false) c.if-rest-eq39.true)
