-- Constraints as no bindings read them.
use Rattle.std.proofs.Common.{◌≡◌, refl, ap, ◌∙◌}
use Rattle.scasp_search_rules.specs.Successors.Reading.{con_under, term_under}
use Rattle.scasp_syntax.specs.Tm.{var}
use Rattle.scasp_syntax.specs.View.{tm_of}
use Rattle.scasp_syntax.specs.declared.con.Con.TheVariants as con
use Rattle.scasp_syntax.specs.declared.term.Term.{Term}
use Rattle.scasp_syntax.specs.declared.term.Term.TheVariants.{Var, Num, App}
use Rattle.scasp_unify.proofs.SolvingLemmas.{under-var}
use Rattle.scasp_unify.specs.SimpleForm.{simple, term_with}

with_view : (t : Term) → term_with (tm_of t) ≡ t
with_view (Var x) = refl
with_view (Num q) = refl
with_view (App f ts) = refl

stays : (t : Term) → term_under var t ≡ t
stays t = ap term_with (under-var (tm_of t)) ∙ with_view t

pub as_it_stands : (t u : Term) → simple (con_under var (con.Neq t u)) ≡ simple (con.Neq t u)
as_it_stands t u = λ i. simple (con.Neq (stays t i) (stays u i))
