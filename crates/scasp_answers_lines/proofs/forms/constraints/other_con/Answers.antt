use Rattle.std.proofs.Common.{◌≡◌, ◌∙◌, [], ◌∷◌, None, ap, sym, subst}
use Rattle.scasp_reader_terms.specs.Names.{place_in}
use Rattle.scasp_answers_terms.specs.Tokens.Constraints.{not_shape_at, related_at, typed_at}
use Rattle.scasp_answers_terms.specs.Tokens.View.{Reads}
use Rattle.scasp_answers_lines.proofs.FormsLemmas.ConLemmas.{any-none}
use Rattle.scasp_answers_lines.proofs.forms.constraints.other_con.Goals as goal

pub returns-in-Err-NoForm : goal.returns-in-Err-NoForm
returns-in-Err-NoForm c =
    let place = place_in c.args.names.now in
    let ts = c.args.cursor.now in
    let none = rw c.in-Err-NoForm.field-0-is at c.in-Err-NoForm.ensures in
    let refused : not_shape_at place ts ≡ None = ap (not_shape_at place) (sym c.again-ahead.ensures) ∙ none in
    subst (λ read. Reads (λ k. k) read c.term_con.result c.term_con.new.cursor) (sym (any-none (not_shape_at place) (related_at place ∷ typed_at place ∷ []) ts refused)) c.term_con.ensures
