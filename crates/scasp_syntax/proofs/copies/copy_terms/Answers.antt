use Rattle.std.proofs.Common.{◌∙◌}
use Rattle.std.proofs.lemmas.Result.{IfOk-weaker}
use Rattle.scasp_syntax.specs.View.{tms_of}
use Rattle.scasp_syntax.proofs.RebuildLemmas.{all_under-var}
use Rattle.scasp_syntax.proofs.copies.copy_terms.Goals as goal

pub returns : goal.returns
returns c = IfOk-weaker c.rebuilt.result _ _ (λ made e. e ∙ all_under-var (tms_of c.as_slice.result.now) ∙ c.as_slice.ensures.value) c.rebuilt.ensures
