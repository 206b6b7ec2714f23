use Rattle.std.proofs.Common.{◌∙◌}
use Rattle.std.proofs.lemmas.Result.{IfOk-weaker}
use Rattle.scasp_checker_lines.proofs.line_faults.cases.is_universal_here.Goals as goal

pub returns : goal.returns
returns c = IfOk-weaker c.knows.result _ _ (λ answer e. e ∙ (λ i. c.universal_of.ensures.known i c.args.x)) c.knows.ensures
