use Rattle.std.proofs.Common.{sym, subst}
use Rattle.scasp_reader_terms.specs.Names.{place_in}
use Rattle.scasp_syntax.specs.View.{tm_of}
use Rattle.scasp_answers_terms.specs.Tokens.View.{Reads}
use Rattle.scasp_answers_lines.proofs.FormsLemmas.ConLemmas.{related-equal}
use Rattle.scasp_answers_lines.proofs.forms.constraints.related_to.Goals as goal

pub returns-then-skips : goal.returns-then-skips
returns-then-skips c =
    subst (λ read. Reads (λ k. k) read c.equal_to.result c.equal_to.new.cursor)
    (sym (related-equal (place_in c.args.names.now) (tm_of c.args.first) c.args.cursor.now c.skips.new.self c.if-skips.ensures.passes)) c.equal_to.ensures
