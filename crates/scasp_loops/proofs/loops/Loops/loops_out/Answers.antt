use Rattle.scasp_loops.proofs.SoundLemmas.{sound_marks}
use Rattle.scasp_loops.proofs.loops.Loops.loops_out.Goals as goal

pub invariant_of-self : goal.invariant_of-self
invariant_of-self c =
    sound_marks c.self.inside.lists c.self.inside.latest c.as_slice.result.now c.loop_out.new.marks c.self.invariant c.as_slice.ensures c.loop_out.ensures.before c.loop_out.ensures.len
    c.loop_out.ensures.stay

pub invariant_of-self-2 : goal.invariant_of-self-2
invariant_of-self-2 c =
    sound_marks c.self.inside.lists c.self.inside.latest c.as_slice.result.now c.loop_out.new.marks c.self.invariant c.as_slice.ensures c.loop_out.ensures.before c.loop_out.ensures.len
    c.loop_out.ensures.stay
