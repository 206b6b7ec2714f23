use Rattle.std.proofs.Common.{◌≡◌, ℕ, List, length, refl, subst, sym}
use Rattle.scasp_loops.specs.Inside.Hinted.{AreHints}
use Rattle.scasp_loops.specs.Inside.Kept.{AreSound, literals_in}
use Rattle.scasp_loops.specs.Inside.Topped.{AreTops}
use Rattle.scasp_loops.specs.Inside.Zipped.{literals_from}
use Rattle.scasp_loops.specs.declared.entry.Entry.{Entry}
use Rattle.scasp_loops.specs.declared.entry.Marks.{Marks}
use Rattle.scasp_loops.specs.declared.hints.Hint.{Hint}
use Rattle.scasp_loops.specs.declared.lists.Lists.{Lists}
use Rattle.scasp_search_rules.specs.declared.states.state.Literal.{Literal}
use Rattle.scasp_trail.specs.Past.{Past}
use Rattle.scasp_loops.proofs.SoundLemmas.{sound_hints, sound_marks}
use Rattle.scasp_loops.proofs.loops.Loops.leave_literal.Goals as goal

-- behind the note on the last literal
noted : (k : Lists) (ts : Past ℕ) (es : List Entry) (ms : List Marks) (hs : Past Hint) → AreSound k ts → es ≡ k.entries.now → ms ≡ k.marks.now → hs.before ≡ k.hints.before
    → length hs.now ≡ length k.hints.now → AreHints (literals_from 0 es ms) hs.now → ((n : ℕ) → (ds : List Entry) → AreTops n ds k.hints.now → AreTops n ds hs.now)
    → AreSound (record { entries = k.entries; marks = k.marks; hints = hs; raised = k.raised }) ts
noted k ts es ms hs s e m b n h t =
    let same : literals_from 0 es ms ≡ literals_in k = λ i. literals_from 0 (e i) (m i) in
    sound_hints k (record { entries = k.entries; marks = k.marks; hints = hs; raised = k.raised }) ts s refl refl b n
    (subst (λ (xs : List Literal). AreHints xs hs.now) same h) refl (t k.raised k.entries.now s.tops.now)

pub invariant_of-self : goal.invariant_of-self
invariant_of-self c =
    sound_marks c.self.inside.lists c.self.inside.latest c.as_slice.result.now c.end_last.new.marks c.self.invariant c.as_slice.ensures c.end_last.ensures.before c.end_last.ensures.len
    c.end_last.ensures.stay

pub note_done-requires-clause-hints : goal.note_done-requires-clause-hints
note_done-requires-clause-hints c =
    let l : Lists = c.self.inside.lists in
    let k : Lists = record { entries = l.entries; marks = c.end_last.new.marks; hints = l.hints; raised = l.raised } in
    let sound : AreSound k c.self.inside.latest =
    sound_marks c.self.inside.lists c.self.inside.latest c.as_slice.result.now c.end_last.new.marks c.self.invariant c.as_slice.ensures c.end_last.ensures.before c.end_last.ensures.len
    c.end_last.ensures.stay in
    let entries : c.as_slice-3.result.now ≡ k.entries.now = c.as_slice-3.ensures in
    let marks : c.as_slice-4.result.now ≡ k.marks.now = c.as_slice-4.ensures in
    let same : literals_from 0 c.as_slice-3.result.now c.as_slice-4.result.now ≡ literals_in k = λ i. literals_from 0 (entries i) (marks i) in
    subst (λ (xs : List Literal). AreHints xs l.hints.now) (sym same) sound.now.hints

pub invariant_of-self-in_err-note_done : goal.invariant_of-self-in_err-note_done
invariant_of-self-in_err-note_done c =
    let l : Lists = c.self.inside.lists in
    let k : Lists = record { entries = l.entries; marks = c.end_last.new.marks; hints = l.hints; raised = l.raised } in
    let sound : AreSound k c.self.inside.latest =
    sound_marks c.self.inside.lists c.self.inside.latest c.as_slice.result.now c.end_last.new.marks c.self.invariant c.as_slice.ensures c.end_last.ensures.before c.end_last.ensures.len
    c.end_last.ensures.stay in
    noted k c.self.inside.latest c.as_slice-3.result.now c.as_slice-4.result.now c.note_done.new.hints sound c.as_slice-3.ensures c.as_slice-4.ensures c.note_done.ensures.before c.note_done.ensures.len
    c.note_done.ensures.hints c.note_done.ensures.tops

pub invariant_of-self-2 : goal.invariant_of-self-2
invariant_of-self-2 c =
    let l : Lists = c.self.inside.lists in
    let k : Lists = record { entries = l.entries; marks = c.end_last.new.marks; hints = l.hints; raised = l.raised } in
    let sound : AreSound k c.self.inside.latest =
    sound_marks c.self.inside.lists c.self.inside.latest c.as_slice.result.now c.end_last.new.marks c.self.invariant c.as_slice.ensures c.end_last.ensures.before c.end_last.ensures.len
    c.end_last.ensures.stay in
    noted k c.self.inside.latest c.as_slice-3.result.now c.as_slice-4.result.now c.note_done.new.hints sound c.as_slice-3.ensures c.as_slice-4.ensures c.note_done.ensures.before c.note_done.ensures.len
    c.note_done.ensures.hints c.note_done.ensures.tops
