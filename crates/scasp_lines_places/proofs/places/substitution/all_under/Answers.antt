use Rattle.std.proofs.Common.{ap, ◌∙◌}
use Rattle.std.proofs.lemmas.Result.{IfOk-weaker}
use Rattle.scasp_syntax.specs.Values.{all_under}
use Rattle.scasp_lines_places.proofs.places.substitution.all_under.Goals as goal

pub returns : goal.returns
returns g c = IfOk-weaker c.rebuilt.result _ _ (λ made e. e ∙ ap (all_under (g.S.Substitution.gives c.args.by.now)) c.as_slice.ensures.value) c.rebuilt.ensures
