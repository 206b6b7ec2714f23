use Rattle.std.proofs.Common.{◌∙◌, ap, sym}
use Rattle.scasp_answers_terms.specs.Tokens.Tokens.{tokens_in}
use Rattle.scasp_answers.specs.Files.Texts.{with_tokens}
use Rattle.scasp_answers.proofs.FilesLemmas.TextLemmas.{with-texts}
use Rattle.scasp_domain_text.proofs.names.add_line.Goals as goal

pub returns : goal.returns
returns c = ap (with_tokens c.loop-text.names) (sym c.in_default.ensures.none) ∙ c.loop-text.invariant ∙ with-texts c.args.names.now (tokens_in c.args.line.now)
