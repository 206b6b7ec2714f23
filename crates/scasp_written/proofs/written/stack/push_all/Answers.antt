use Rattle.std.proofs.Common.{refl}
use Rattle.scasp_written.proofs.WrittenLemmas.StackLemmas.{height_next, states_next}
use Rattle.scasp_written.specs.Written.Inside.Stacks.{states_of}
use Rattle.scasp_written.proofs.written.stack.push_all.Goals as goal

pub loop-state-preserved : goal.loop-state-preserved
loop-state-preserved c =
    record {
      states = states_next c.loop-state.rest.items c.pop.new.self.items c.in-Some.state (states_of c.loop-state.stack.items) (states_of c.push_one.new.stack.items) _ c.in-Some.ensures.items c.in_ok-push_one.ensures.states c.loop-state.invariant.states;
      height = λ p each. height_next c.args.before c.args.made p c.loop-state.rest.items c.pop.new.self.items c.in-Some.state c.loop-state.stack.items c.push_one.new.stack.items _
          c.in-Some.ensures.items (c.loop-state.invariant.height p each) (c.in_ok-push_one.ensures.height p);
    }
