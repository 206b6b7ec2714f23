use Rattle.std.proofs.Common.{sym, subst}
use Rattle.scasp_reader_terms.specs.Names.{place_in}
use Rattle.scasp_answers_terms.specs.Tokens.View.{Reads}
use Rattle.scasp_answers_lines.proofs.FormsLemmas.ConLemmas.{typed-num}
use Rattle.scasp_answers_lines.proofs.forms.constraints.typed.Goals as goal

pub returns-then-skips : goal.returns-then-skips
returns-then-skips c =
    subst (λ read. Reads (λ k. k) read c.num.result c.num.new.cursor) (sym (typed-num (place_in c.args.names.now) c.args.cursor.now c.skips.new.self c.if-skips.ensures.passes)) c.num.ensures
