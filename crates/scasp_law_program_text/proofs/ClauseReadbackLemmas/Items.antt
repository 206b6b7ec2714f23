-- Items of all forms are read back.
use Rattle.std.proofs.Common.{◌≡◌, ℕ, Bool, true, false, List, ◌++◌, codes, Some, refl, ap, subst, ◌∙◌}
use Rattle.std.specs.Prelude.{if◌then◌else◌}
use Rattle.scasp_syntax.specs.View.{tm_of}
use Rattle.scasp_syntax.specs.declared.clause.Item.{Item}
use Rattle.scasp_syntax.specs.declared.clause.Item.TheVariants as form
use Rattle.scasp_syntax.specs.declared.term.Term.{Term}
use Rattle.scasp_syntax.specs.declared.term.Term.TheVariants.{Var, Num, App}
use Rattle.scasp_reader_terms.specs.Steps.{State}
use Rattle.scasp_reader.specs.declared.bodies.atoms.TheConstants.{DEPTH_LIMIT}
use Rattle.scasp_reader.specs.Bodies.Items.{term_of, equation_of, item}
use Rattle.scasp_print_program.specs.Terms.{Style, term_text}
use Rattle.scasp_print_program.specs.Items.{item_text}
use Rattle.scasp_law_program_text.specs.CompoundReadback.Styles.{IsStyle}
use Rattle.scasp_law_program_text.specs.CompoundReadback.Reading.{Reads}
use Rattle.scasp_law_program_text.proofs.LinearReadbackLemmas.LinearItems.{linear-is, linear-read}
use Rattle.scasp_law_program_text.specs.ClauseReadback.Fitting.{item_fits}
use Rattle.scasp_law_program_text.specs.ClauseReadback.Counting.{count_item}
use Rattle.scasp_law_program_text.specs.ClauseReadback.Reading.{EndsItem}
use Rattle.scasp_law_program_text.proofs.ClauseReadbackLemmas.Atoms.{lit-read}
use Rattle.scasp_law_program_text.proofs.ClauseReadbackLemmas.Equations.{equal-read, differ-read}

same-term : (t : Term) → term_of (tm_of t) ≡ t
same-term (Var x) = refl
same-term (Num q) = refl
same-term (App f ts) = refl

same-sides : (are_equal : Bool) (t u : Term) → equation_of are_equal (tm_of t) (tm_of u) ≡ (if are_equal then form.Equal t u else form.Differ t u)
same-sides true t u = ap (λ x. form.Equal x (term_of (tm_of u))) (same-term t) ∙ ap (form.Equal t) (same-term u)
same-sides false t u = ap (λ x. form.Differ x (term_of (tm_of u))) (same-term t) ∙ ap (form.Differ t) (same-term u)

pub item-read : (w : Style) (style : IsStyle w) (i : Item) (n m : ℕ) → item_fits w i ≡ true → count_item w n i ≡ Some m → (s : State) (rest : List ℕ) → EndsItem i rest → Reads w n m item (item_text w i) i s rest
item-read w style (form.Call l) n m g c s rest end = lit-read w style l n m g c s rest end
item-read w style (form.Equal t u) n m g c s rest end =
    subst (λ i. Reads w n m item ((term_text w DEPTH_LIMIT (tm_of t) ++ codes " = ") ++ term_text w DEPTH_LIMIT (tm_of u)) i s rest) (same-sides true t u)
    (equal-read w style (tm_of t) (tm_of u) n m g c s rest end.term)
item-read w style (form.Differ t u) n m g c s rest end =
    subst (λ i. Reads w n m item ((term_text w DEPTH_LIMIT (tm_of t) ++ codes " \\= ") ++ term_text w DEPTH_LIMIT (tm_of u)) i s rest) (same-sides false t u)
    (differ-read w style (tm_of t) (tm_of u) n m g c s rest end.term)
item-read w style (form.Linear l) n m g c s rest end = linear-read w style l (linear-is w l g) n m c s rest end
