use Rattle.std.proofs.Common.{ap, sym, ◌∙◌}
use Rattle.scasp_syntax.specs.Tm.{var, pushed}
use Rattle.scasp_abduce.proofs.RuleLemmas.{variables-push}
use Rattle.scasp_abduce.proofs.rules.variables.Goals as goal

pub loop-x-preserved : goal.loop-x-preserved
loop-x-preserved c = c.in_ok-push.ensures.value ∙ ap (λ ts. pushed ts (var c.loop-x.x)) c.loop-x.invariant ∙ sym (variables-push c.loop-x.x)
