use Rattle.std.proofs.Common.{◌≡◌, sym, subst}
use Rattle.scasp_reader_terms.specs.Names.{place_in}
use Rattle.scasp_answers_terms.specs.Tokens.Forms.{forms}
use Rattle.scasp_answers_terms.specs.Tokens.Readers.{behind_word}
use Rattle.scasp_answers_terms.specs.Tokens.View.{Reads}
use Rattle.scasp_answers_lines.specs.Forms.FirstWords.{text_of, NamesWord}
use Rattle.scasp_answers_lines.specs.Forms.View.{line_of}
use Rattle.scasp_answers_lines.proofs.FormsLemmas.WordLemmas.{unformed}
use Rattle.scasp_answers_lines.proofs.forms.edges.any_line.Goals as goal

pub returns-in-None : goal.returns-in-None
returns-in-None c =
    unformed (place_in c.args.names.now) c.args.word.now c.args.cursor.now (subst (NamesWord c.args.word.now) c.in-None.is c.first_word.ensures)

pub returns-in-Some : goal.returns-in-Some
returns-in-Some c =
    let named : c.args.word.now ≡ text_of c.in-Some.word = subst (NamesWord c.args.word.now) c.in-Some.is c.first_word.ensures in
    subst (λ word. Reads line_of (behind_word (forms (place_in c.args.names.now)) word c.args.cursor.now) c.known_line.result c.known_line.new.cursor)
    (sym named) c.known_line.ensures
