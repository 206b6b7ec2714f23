use Rattle.std.proofs.Common.{◌∙◌, Some, ap, sym, subst}
use Rattle.scasp_reader_terms.specs.Names.{place_in}
use Rattle.scasp_answers_terms.specs.Tokens.View.{Reads, token_of}
use Rattle.scasp_answers_lines.specs.Forms.View.{line_of}
use Rattle.scasp_answers_lines.proofs.FormsLemmas.LineLemmas.{line-word}
use Rattle.scasp_answers_lines.proofs.forms.lines.line.Goals as goal

pub returns : goal.returns
returns c =
    let first = ap (λ t. Some (token_of t)) (sym c.in-Word.is) ∙ c.in-Some.ensures.token in
    subst (λ read. Reads line_of read c.any_line.result c.any_line.new.cursor)
    (sym (line-word (place_in c.args.names.now) c.args.cursor.now c.pop.new.self c.in-Word.word.now (sym first) c.pop.ensures.rest)) c.any_line.ensures
