use Rattle.std.proofs.Common.{ap, ◌∙◌}
use Rattle.std.proofs.lemmas.Result.{IfOk-weaker}
use Rattle.scasp_lines.specs.Known.{is_con_known}
use Rattle.scasp_checker_lines.proofs.line_faults.known.knows_con.Goals as goal

pub returns : goal.returns
returns c = IfOk-weaker c.is_con_known.result _ _ (λ answer e. e ∙ ap (λ k. is_con_known k c.args.con.now) c.scope_of-scope.ensures) c.is_con_known.ensures
