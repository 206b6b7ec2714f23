use Rattle.std.proofs.Common.{◌≡◌, ◌++◌, get_or, sym, ◌∙◌, subst, append-nil, ap}
use Rattle.std.specs.Str.{IsUtf8}
use Rattle.std.proofs.lemmas.List.{drop_all}
use Rattle.scasp_reader_tokens.specs.Quoted.{text_of, byte_of_escape}
use Rattle.scasp_reader_tokens.proofs.Walks.{some_left}
use Rattle.scasp_reader_tokens.proofs.QuotedLemmas.{text_of-pair, text_of-plain, text_of-more}
use Rattle.scasp_reader_tokens.proofs.Utf8Lemmas.{IsUtf8-text_of}
use Rattle.scasp_answers_terms.proofs.terms.names.unescaped_bytes.Goals as goal

pub loop-at-preserved-then-begins_pair : goal.loop-at-preserved-then-begins_pair
loop-at-preserved-then-begins_pair c =
    let rest = c.behind-rest.result.now in
    let at = c.loop-at.at in
    let text = c.loop-at.text.items in
    let more = text_of-more c.args.bytes.now rest at c.behind-rest.ensures text 2 (byte_of_escape (get_or rest 1 0)) (text_of-pair rest (sym c.begins_pair.ensures ∙ c.if-begins_pair.true)) in
    rw (c.in_ok-push.ensures.items, c.byte_of_escape.ensures) (more ∙ c.loop-at.invariant)

pub loop-at-preserved : goal.loop-at-preserved
loop-at-preserved c =
    let rest = c.behind-rest.result.now in
    let at = c.loop-at.at in
    let text = c.loop-at.text.items in
    let left = some_left c.args.bytes.now rest at c.behind-rest.ensures c.loop-at-test.true in
    let more = text_of-more c.args.bytes.now rest at c.behind-rest.ensures text 1 (get_or rest 0 0) (text_of-plain rest left (sym c.begins_pair.ensures ∙ c.if-begins_pair.false)) in
    rw c.in_ok-push-2.ensures.items (more ∙ c.loop-at.invariant)

pub from_utf8-requires : goal.from_utf8-requires
from_utf8-requires c =
    let text = c.loop-at.text.items in
    let bytes = c.args.bytes.now in
    let all : text ≡ text_of bytes = sym (append-nil text) ∙ ap (λ r. text ++ text_of r) (sym (drop_all c.loop-at.at bytes c.loop-at-test.false)) ∙ c.loop-at.invariant in
    subst IsUtf8 (sym all) (IsUtf8-text_of bytes c.requires)
