use Rattle.std.proofs.Common.{◌∙◌}
use Rattle.std.proofs.lemmas.Result.{IfOk-weaker}
use Rattle.scasp_checker_lines.proofs.line_faults.cases.is_in_scope.Goals as goal

pub returns : goal.returns
returns c = IfOk-weaker c.knows.result _ _ (λ answer e. e ∙ (λ i. c.scope_of.ensures i c.args.x)) c.knows.ensures
