use Rattle.std.proofs.Common.{ap, ◌∙◌}
use Rattle.std.proofs.lemmas.Result.{IfOk-weaker}
use Rattle.scasp_lines.specs.Known.{are_known}
use Rattle.scasp_checker_lines.proofs.line_faults.known.knows_terms.Goals as goal

pub returns : goal.returns
returns c = IfOk-weaker c.are_known.result _ _ (λ answer e. e ∙ ap (λ k. are_known k c.args.terms.now) c.scope_of-scope.ensures) c.are_known.ensures
