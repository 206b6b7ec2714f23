use Rattle.std.proofs.Common.{◌∙◌, ◌++◌, ap, refl}
use Rattle.scasp_command_extend.specs.Texts.{block_text, model_words}
use Rattle.scasp_command_extend.proofs.reports.model_report.Goals as goal

pub returns : goal.returns
unfolding block_text
returns c = λ set same. record {
  text = c.in_ok-put_model.ensures set same ∙ ap (λ t. t ++ model_words c.args.names.now set) c.in_ok-text.ensures;
  end = refl;
}
