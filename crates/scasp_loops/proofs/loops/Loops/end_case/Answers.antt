use Rattle.std.proofs.Common.{◌≡◌, ◌≤◌, ℕ, List, length}
use Rattle.scasp_bound.specs.Bounds.{ReadsDown}
use Rattle.scasp_loops.specs.Inside.Kept.{AllStay, AreSound, literals_in}
use Rattle.scasp_loops.specs.Inside.Topped.{AreTops}
use Rattle.scasp_loops.specs.declared.hints.Hint.{Hint}
use Rattle.scasp_loops.specs.declared.lists.Lists.{Lists}
use Rattle.scasp_trail.specs.Past.{Past}
use Rattle.scasp_unify.specs.declared.bindings.Binding.{Binding}
use Rattle.scasp_loops.proofs.SoundLemmas.{sound_hints, sound_raised, sound_stays}
use Rattle.scasp_loops.proofs.loops.Loops.end_case.Goals as goal

-- behind what is read
kept : (l r k : Lists) (ts : Past ℕ) (bs : List Binding) → AreSound l ts → r.entries ≡ l.entries → r.marks ≡ l.marks → r.hints ≡ l.hints → l.raised ≤ r.raised → ReadsDown r.raised bs
    → k.entries.before ≡ r.entries.before → k.marks.before ≡ r.marks.before → k.hints ≡ r.hints → length k.marks.now ≤ length k.entries.now → AllStay (literals_in r) (literals_in k)
    → k.raised ≡ r.raised → ((n : ℕ) → (hs : List Hint) → ReadsDown n bs → AreTops n r.entries.now hs → AreTops n k.entries.now hs) → AreSound k ts
kept l r k ts bs s re rm rh up d ke km kh f a q t =
    let raised : AreSound r ts = sound_raised l r ts s re rm rh up in
    sound_stays r k ts raised ke km kh f a q (t r.raised r.hints.now d raised.tops.now)

pub invariant_of-self : goal.invariant_of-self
invariant_of-self c = sound_raised c.self.inside.lists c.raise.new.self c.self.inside.latest c.self.invariant c.raise.ensures.entries c.raise.ensures.marks c.raise.ensures.hints c.raise.ensures.raised

pub invariant_of-self-in_err-end_each : goal.invariant_of-self-in_err-end_each
invariant_of-self-in_err-end_each c =
    kept c.self.inside.lists c.raise.new.self c.end_each.new.lists c.self.inside.latest c.args.bound.now.now c.self.invariant c.raise.ensures.entries c.raise.ensures.marks c.raise.ensures.hints
    c.raise.ensures.raised c.in_ok-raise.ensures.down c.end_each.ensures.entries_before c.end_each.ensures.marks_before c.end_each.ensures.hints c.end_each.ensures.fit c.end_each.ensures.stay
    c.end_each.ensures.raised c.end_each.ensures.tops

pub note_each-requires-clause-hints : goal.note_each-requires-clause-hints
note_each-requires-clause-hints c =
    let sound : AreSound c.end_each.new.lists c.self.inside.latest =
    kept c.self.inside.lists c.raise.new.self c.end_each.new.lists c.self.inside.latest c.args.bound.now.now c.self.invariant c.raise.ensures.entries c.raise.ensures.marks c.raise.ensures.hints
    c.raise.ensures.raised c.in_ok-raise.ensures.down c.end_each.ensures.entries_before c.end_each.ensures.marks_before c.end_each.ensures.hints c.end_each.ensures.fit c.end_each.ensures.stay
    c.end_each.ensures.raised c.end_each.ensures.tops in
    sound.now.hints

pub invariant_of-self-in_err-note_each : goal.invariant_of-self-in_err-note_each
invariant_of-self-in_err-note_each c =
    let sound : AreSound c.end_each.new.lists c.self.inside.latest =
    kept c.self.inside.lists c.raise.new.self c.end_each.new.lists c.self.inside.latest c.args.bound.now.now c.self.invariant c.raise.ensures.entries c.raise.ensures.marks c.raise.ensures.hints
    c.raise.ensures.raised c.in_ok-raise.ensures.down c.end_each.ensures.entries_before c.end_each.ensures.marks_before c.end_each.ensures.hints c.end_each.ensures.fit c.end_each.ensures.stay
    c.end_each.ensures.raised c.end_each.ensures.tops in
    sound_hints c.end_each.new.lists c.note_each.new.lists c.self.inside.latest sound c.note_each.ensures.entries c.note_each.ensures.marks c.note_each.ensures.before c.note_each.ensures.len
    c.note_each.ensures.hints c.note_each.ensures.raised (c.note_each.ensures.tops c.end_each.new.lists.raised c.end_each.new.lists.entries.now sound.tops.now)

pub invariant_of-self-2 : goal.invariant_of-self-2
invariant_of-self-2 c =
    let sound : AreSound c.end_each.new.lists c.self.inside.latest =
    kept c.self.inside.lists c.raise.new.self c.end_each.new.lists c.self.inside.latest c.args.bound.now.now c.self.invariant c.raise.ensures.entries c.raise.ensures.marks c.raise.ensures.hints
    c.raise.ensures.raised c.in_ok-raise.ensures.down c.end_each.ensures.entries_before c.end_each.ensures.marks_before c.end_each.ensures.hints c.end_each.ensures.fit c.end_each.ensures.stay
    c.end_each.ensures.raised c.end_each.ensures.tops in
    sound_hints c.end_each.new.lists c.note_each.new.lists c.self.inside.latest sound c.note_each.ensures.entries c.note_each.ensures.marks c.note_each.ensures.before c.note_each.ensures.len
    c.note_each.ensures.hints c.note_each.ensures.raised (c.note_each.ensures.tops c.end_each.new.lists.raised c.end_each.new.lists.entries.now sound.tops.now)
