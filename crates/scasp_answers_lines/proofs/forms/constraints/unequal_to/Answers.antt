use Rattle.std.proofs.Common.{◌∙◌, Some, codes, sym}
use Rattle.scasp_reader_terms.specs.Names.{place_in}
use Rattle.scasp_syntax.specs.View.{tm_of}
use Rattle.scasp_answers_terms.specs.Tokens.Constraints.{unequal}
use Rattle.scasp_answers_terms.specs.Tokens.Terms.{term_at}
use Rattle.scasp_answers_lines.proofs.FormsLemmas.ConLemmas.{keyed-read}
use Rattle.scasp_answers_lines.proofs.forms.constraints.unequal_to.Goals as goal

pub returns : goal.returns
returns c =
    keyed-read (codes " \\= ") (term_at (place_in c.args.names.now)) (unequal (tm_of c.args.first)) c.args.cursor.now c.expect.new.self c.term.new.cursor (tm_of c.in_ok-second.second)
    c.in_ok-expect.ensures.takes c.in_ok-second.ensures
    ∙ (λ i. Some (sym c.unequal.ensures i, c.term.new.cursor))
