use Rattle.std.proofs.Common.{◌∙◌}
use Rattle.std.proofs.lemmas.Result.{IfOk-weaker}
use Rattle.scasp_checker_answer.proofs.KnownLemmas.{below_known}
use Rattle.scasp_checker_answer.proofs.scope.are_below.Goals as goal

pub returns : goal.returns
returns c = IfOk-weaker c.are_known.result _ _ (λ answer e. e ∙ below_known c.args.bound c.args.terms.now) c.are_known.ensures
