use Rattle.std.proofs.Common.{◌≡◌, string_bytes, map, ap, ◌∙◌}
use Rattle.scasp_name.specs.Texts.{with_text}
use Rattle.scasp_name.proofs.TextLemmas.{with_text-at, with_text-map, text_at-stored, slice_get-with_text, BeginWithLists-with_text}
use Rattle.scasp_name.proofs.names.Names.intern.Goals as goal

-- what the table reads as after the insert
grown : (c : goal.After-new) → map string_bytes c.insert_full.new.self.keys ≡ with_text c.args.self.now c.args.text.now
grown c =
    let old = c.self.inside.texts.keys in
    let new = c.in_ok-from_str.field-0 in
    let texts : with_text (map string_bytes old) (string_bytes new) ≡ with_text c.args.self.now c.args.text.now =
    rw (c.in_ok-from_str.ensures.ok, c.self.view_is) in
    ap (map string_bytes) c.in_ok-place.ensures.keys ∙ with_text-map string_bytes old new ∙ texts

pub returns-in-Some-clause-texts : goal.returns-in-Some-clause-texts
returns-in-Some-clause-texts c = with_text-at _ _ _ c.in-Some.ensures.found

pub returns-clause-texts : goal.returns-clause-texts
returns-clause-texts c = grown c

pub invariant_of-self-2 : goal.invariant_of-self-2
invariant_of-self-2 c =
    rw (grown c) (BeginWithLists-with_text _ _ (rw c.self.view_is at c.self.invariant))

pub returns-clause-place : goal.returns-clause-place
returns-clause-place c =
    let s = c.in_ok-place.ensures.stored in
    let new = c.in_ok-from_str.field-0 in
    let at = text_at-stored string_bytes c.insert_full.new.self.keys (string_bytes new) c.in_ok-place.place s.0 s.1 s.2 in
    rw c.new.ensures (rw c.in_ok-from_str.ensures.ok at at)

pub returns-clause-kept : goal.returns-clause-kept
returns-clause-kept c = λ place h. rw (grown c) (slice_get-with_text _ _ place h)
