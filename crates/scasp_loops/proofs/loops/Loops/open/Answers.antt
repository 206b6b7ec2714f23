use Rattle.std.proofs.Common.{false, refl}
use Rattle.scasp_loops.specs.declared.entry.Entry.{Entry}
use Rattle.scasp_loops.specs.declared.entry.Marks.{Marks}
use Rattle.scasp_loops.specs.declared.lists.Lists.{Lists}
use Rattle.scasp_loops.proofs.SoundLemmas.{opened, sound_opened}
use Rattle.scasp_loops.proofs.loops.Loops.open.Goals as goal

pub returns-clause-now : goal.returns-clause-now
returns-clause-now c =
    let e : Entry = record { lit = c.args.lit; cases = c.args.cases } in
    let m : Marks = record { is_done = false; loops = false; is_general = false } in
    rw (c.in_ok-push.ensures.now, ← c.self.view_is)
    (opened c.self.inside.lists c.prepare.new.lists c.self.inside.latest e m c.self.invariant c.in_ok-prepare.ensures.stands c.in_ok-prepare.ensures.marks)

pub invariant_of-self-2 : goal.invariant_of-self-2
invariant_of-self-2 c =
    let e : Entry = record { lit = c.args.lit; cases = c.args.cases } in
    let m : Marks = record { is_done = false; loops = false; is_general = false } in
    let p : Lists = c.prepare.new.lists in
    sound_opened c.self.inside.lists p (record { entries = p.entries; marks = c.push.new.self; hints = p.hints; raised = p.raised }) c.self.inside.latest c.prepare.new.latest e m c.self.invariant
    c.in_ok-prepare.ensures.stands c.in_ok-prepare.ensures.more c.in_ok-prepare.ensures.marks c.in_ok-prepare.ensures.entries_before c.in_ok-prepare.ensures.hints_before
    c.in_ok-prepare.ensures.latest_before refl refl c.in_ok-push.ensures.now c.in_ok-push.ensures.before refl c.in_ok-prepare.ensures.raised c.in_ok-prepare.ensures.tops
