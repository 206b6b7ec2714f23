use Rattle.std.proofs.Common.{sym, ◌∙◌}
use Rattle.scasp_search_rules.specs.Successors.Replacing.{end_overflows}
use Rattle.scasp_search_ends.proofs.EndsLemmas.AnswerLemmas.{ends-kept}
use Rattle.scasp_search_ends.proofs.ends.answers.answer_at.Goals as goal

pub returns : goal.returns
returns c = λ checks.
    ends-kept c.answer_if_apart.result (end_overflows c.args.state.now) _ _ (sym c.in_ok-end_overflows.ensures ∙ c.if-branch.false) (c.answer_if_apart.ensures checks)
