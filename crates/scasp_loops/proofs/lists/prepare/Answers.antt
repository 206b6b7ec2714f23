use Rattle.std.proofs.Common.{◌≡◌, ◌+◌, ◌≤◌, ℕ, List, arith, length, refl, subst, sym, ◌∙◌}
use Rattle.scasp_loops.specs.Held.{literal_of}
use Rattle.scasp_loops.specs.Inside.Hinted.{AreHinted, IsHint}
use Rattle.scasp_loops.specs.Inside.Topped.{AreTops, IsTop}
use Rattle.scasp_loops.specs.Inside.Zipped.{literals_from}
use Rattle.scasp_loops.specs.declared.entry.Entry.{Entry}
use Rattle.scasp_loops.specs.declared.hints.Hint.{Hint}
use Rattle.scasp_search_rules.specs.declared.states.state.Literal.{Literal}
use Rattle.scasp_loops.proofs.HintLemmas.{hinted_more, hinted_noted, hinted_stood, hinted_unnoted}
use Rattle.scasp_loops.proofs.TopLemmas.{tops_entry, tops_hint}
use Rattle.scasp_loops.proofs.ZipLemmas.{literals_length}
use Rattle.scasp_trail.specs.Past.{Past}
use Rattle.scasp_loops.proofs.lists.prepare.Goals as goal

pub returns-in_err-note_latest-clause-hinted : goal.returns-in_err-note_latest-clause-hinted
returns-in_err-note_latest-clause-hinted c =
    let ls : List Literal = literals_from 0 c.args.lists.now.entries.now c.args.lists.now.marks.now in
    let at = c.len-at.result in
    let count : at ≡ length ls = c.len-at.ensures.len ∙ sym (literals_length c.args.lists.now.entries.now c.args.lists.now.marks.now c.requires.fit) in
    let hint : IsHint ls at c.args.hint = subst (λ (n : ℕ). IsHint ls n c.args.hint) (sym c.len-at.ensures.len) c.requires.hint in
    let stood : AreHinted ls c.put-2.new.list.now c.args.latest.now.now =
    hinted_stood ls c.args.lists.now.hints.now c.put-2.new.list.now c.args.latest.now.now c.args.hint at c.requires.hinted hint count c.in_ok-put-2.ensures.now c.in_ok-put-2.ensures.few in
    hinted_unnoted ls c.put-2.new.list.now c.args.latest.now.now c.note_latest.new.latest.now stood c.in_err-note_latest.ensures.unchanged

pub returns-clause-more : goal.returns-clause-more
returns-clause-more c =
    let ls : List Literal = literals_from 0 c.args.lists.now.entries.now c.args.lists.now.marks.now in
    let at = c.len-at.result in
    let count : at ≡ length ls = c.len-at.ensures.len ∙ sym (literals_length c.args.lists.now.entries.now c.args.lists.now.marks.now c.requires.fit) in
    let hint : IsHint ls at c.args.hint = subst (λ (n : ℕ). IsHint ls n c.args.hint) (sym c.len-at.ensures.len) c.requires.hint in
    let stood : AreHinted ls c.put-2.new.list.now c.args.latest.now.now =
    hinted_stood ls c.args.lists.now.hints.now c.put-2.new.list.now c.args.latest.now.now c.args.hint at c.requires.hinted hint count c.in_ok-put-2.ensures.now c.in_ok-put-2.ensures.few in
    λ m. hinted_more ls c.args.lists.now.hints.now c.put-2.new.list.now c.args.latest.now.now c.note_latest.new.latest.now c.args.hint
    (literal_of (length c.args.lists.now.marks.now) c.args.entry m) at (at + 1) stood count refl c.in_ok-put-2.ensures.now (sym c.requires.key) c.in_ok-note_latest.ensures.now

pub returns-clause-hinted : goal.returns-clause-hinted
returns-clause-hinted c =
    let ls : List Literal = literals_from 0 c.args.lists.now.entries.now c.args.lists.now.marks.now in
    let at = c.len-at.result in
    let count : at ≡ length ls = c.len-at.ensures.len ∙ sym (literals_length c.args.lists.now.entries.now c.args.lists.now.marks.now c.requires.fit) in
    let hint : IsHint ls at c.args.hint = subst (λ (n : ℕ). IsHint ls n c.args.hint) (sym c.len-at.ensures.len) c.requires.hint in
    let stood : AreHinted ls c.put-2.new.list.now c.args.latest.now.now =
    hinted_stood ls c.args.lists.now.hints.now c.put-2.new.list.now c.args.latest.now.now c.args.hint at c.requires.hinted hint count c.in_ok-put-2.ensures.now c.in_ok-put-2.ensures.few in
    hinted_noted ls c.put-2.new.list.now c.args.latest.now.now c.note_latest.new.latest.now c.args.hint.key (at + 1) stood (omega (arith, count)) c.in_ok-note_latest.ensures.now

pub returns-in_err-put-2-clause-tops : goal.returns-in_err-put-2-clause-tops
returns-in_err-put-2-clause-tops c =
    let es : List Entry = c.args.lists.now.entries.now in
    let hs : List Hint = c.args.lists.now.hints.now in
    let at = c.len-at.result in
    let count : at ≡ length (literals_from 0 es c.args.lists.now.marks.now) = c.len-at.ensures.len ∙ sym (literals_length es c.args.lists.now.marks.now c.requires.fit) in
    let few : length hs ≤ at + 1 = omega (arith, count, c.requires.hinted.few) in
    λ n a. subst (λ (p : Past Hint). AreTops n c.put.new.list.now p.now) (sym c.in_err-put-2.ensures.unchanged) (tops_entry n at es c.put.new.list.now hs c.args.entry a few c.in_ok-put.ensures.now)

pub returns-in_err-note_latest-clause-tops : goal.returns-in_err-note_latest-clause-tops
returns-in_err-note_latest-clause-tops c =
    let es : List Entry = c.args.lists.now.entries.now in
    let hs : List Hint = c.args.lists.now.hints.now in
    let at = c.len-at.result in
    let count : at ≡ length (literals_from 0 es c.args.lists.now.marks.now) = c.len-at.ensures.len ∙ sym (literals_length es c.args.lists.now.marks.now c.requires.fit) in
    let few : length hs ≤ at + 1 = omega (arith, count, c.requires.hinted.few) in
    let top : IsTop c.args.hint.top at es hs = subst (λ (n : ℕ). IsTop c.args.hint.top n es hs) (sym c.len-at.ensures.len) c.requires.top in
    λ n a. tops_hint n at es c.put.new.list.now hs c.put-2.new.list.now c.args.entry c.args.hint a few c.in_ok-put.ensures.now c.in_ok-put-2.ensures.now
    (c.in_ok-put-2.ensures.few (at + 1) few (omega arith)) top

pub returns-clause-tops : goal.returns-clause-tops
returns-clause-tops c =
    let es : List Entry = c.args.lists.now.entries.now in
    let hs : List Hint = c.args.lists.now.hints.now in
    let at = c.len-at.result in
    let count : at ≡ length (literals_from 0 es c.args.lists.now.marks.now) = c.len-at.ensures.len ∙ sym (literals_length es c.args.lists.now.marks.now c.requires.fit) in
    let few : length hs ≤ at + 1 = omega (arith, count, c.requires.hinted.few) in
    let top : IsTop c.args.hint.top at es hs = subst (λ (n : ℕ). IsTop c.args.hint.top n es hs) (sym c.len-at.ensures.len) c.requires.top in
    λ n a. tops_hint n at es c.put.new.list.now hs c.put-2.new.list.now c.args.entry c.args.hint a few c.in_ok-put.ensures.now c.in_ok-put-2.ensures.now
    (c.in_ok-put-2.ensures.few (at + 1) few (omega arith)) top
