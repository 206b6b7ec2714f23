use Rattle.std.proofs.Common.{ap, sym, ◌∙◌, append-nil, refl, []}
use Rattle.scasp_cert.specs.Text.Constraints.{con_text}
use Rattle.scasp_reader_terms.specs.Names.{place_in}
use Rattle.scasp_answers_terms.specs.Tokens.Tokens.{tokens_in}
use Rattle.scasp_answers_terms.specs.Tokens.Constraints.{con_at}
use Rattle.scasp_law_answer_text.proofs.LineReadbackLemmas.Constraints.{ends-line, con-read}
use Rattle.scasp_law_answer_text.proofs.line_readback.laws.constraints_are_read_back.Goals as goal

pub returns : goal.returns
returns c = λ names k t n f. ap (λ bytes. con_at (place_in names) (tokens_in bytes)) (sym (append-nil (con_text names k))) ∙ con-read names t [] (ends-line (place_in names)) k n f
