use Rattle.std.proofs.Common.{◌+◌, ◌-◌, ap, ◌∙◌}
use Rattle.scasp_written.proofs.WrittenLemmas.StackLemmas.{height_pushed}
use Rattle.scasp_written.proofs.written.stack.push_one.Goals as goal

pub returns-clause-height : goal.returns-clause-height
returns-clause-height c = λ p below.
    height_pushed c.args.stack.now.items c.push.new.self.items (record { state = c.args.state; made = c.in_ok-grown.grown }) c.args.before c.args.made p
    c.in_ok-push.ensures.items (c.in_ok-grown.ensures.value ∙ ap (λ n. c.args.made + (n - c.args.before)) c.in_ok-size.ensures) c.in_ok-grown.ensures.fits c.read_tasks.ensures below
