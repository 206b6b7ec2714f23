use Rattle.std.proofs.Common.{◌≡◌, ◌+◌, ◌*◌, ◌^◌, ◌<◌, ◌≤◌, arith, length, subst, sym, ◌∙◌}
use Rattle.scasp_hint.specs.Satisfying.{sat}
use Rattle.scasp_written.proofs.WrittenLemmas.FreeLemmas.{all_below}
use Rattle.scasp_written.proofs.WrittenLemmas.StackLemmas.{height_freed}
use Rattle.scasp_written.specs.Written.Inside.Heights.{IsBelow}
use Rattle.scasp_search_rules.specs.declared.states.state.State.{State}
use Rattle.scasp_search_rules.specs.Successors.Falls.{EachState, packed, size, weight}
use Rattle.scasp_written.proofs.written.stack.push_free.Goals as goal

pub returns-clause-height : goal.returns-clause-height
returns-clause-height c =
    let w = c.args.waiting in
    let p = packed w.made (weight w.state.work) in
    let below = subst (λ n. EachState (IsBelow n w.made p) c.in_ok-states.states) (sym c.in_ok-before.ensures)
    (subst (λ (ss : _). EachState (IsBelow (size w.state) w.made p) ss) (sym c.in_ok-states.ensures) (all_below c.args.program.now sat w.state w.made c.requires)) in
    height_freed c.args.stack.now.items c.push_all.new.stack.items w _ c.read_states.ensures (c.in_ok-push_all.ensures.height p below)
