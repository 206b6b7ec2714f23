use Rattle.std.proofs.Common.{sym, subst}
use Rattle.scasp_reader_terms.specs.Names.{place_in}
use Rattle.scasp_answers_terms.specs.Tokens.Forms.{forms}
use Rattle.scasp_answers_terms.specs.Tokens.Readers.{behind_word}
use Rattle.scasp_answers_terms.specs.Tokens.View.{Reads}
use Rattle.scasp_answers_lines.specs.Forms.FirstWords.{text_of}
use Rattle.scasp_answers_lines.specs.Forms.View.{line_of}
use Rattle.scasp_answers_lines.proofs.forms.edges.known_line.Goals as goal

pub returns-in-File : goal.returns-in-File
returns-in-File c =
    let place = place_in c.args.names.now in
    subst (λ word. Reads line_of (behind_word (forms place) (text_of word) c.args.cursor.now) c.file_line.result c.file_line.new.cursor)
    (sym c.in-File.is) (c.file_line.ensures place)
