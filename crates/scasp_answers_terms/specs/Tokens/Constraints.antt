-- Reading constraints.
use Rattle.std.specs.Prelude.{ℕ, nat_lt, List, [], ◌∷◌, codes, None, Some, if◌then◌else◌, ◌&&◌}
use Rattle.scasp_num.specs.Arithmetic.{◌>>=◌}
use Rattle.scasp_syntax.specs.Tm.{Tm, var, num, app, nil}
use Rattle.scasp_syntax.specs.declared.term.Term.{Term}
use Rattle.scasp_syntax.specs.declared.term.Term.TheVariants.{Var, Num, App}
use Rattle.scasp_syntax.specs.declared.con.Con.{Con}
use Rattle.scasp_syntax.specs.declared.con.Con.TheVariants as con
use Rattle.scasp_num.specs.Linear.{Linear}
use Rattle.scasp_answers_terms.specs.Tokens.Bounds.{is_place, is_count, row_fits}
use Rattle.scasp_answers_terms.specs.Tokens.Tokens.{Token, variable}
use Rattle.scasp_answers_terms.specs.Tokens.Readers.{Parsed, past_text, made, keyed, both, until, any_of, only, number_at}
use Rattle.scasp_answers_terms.specs.Tokens.Names.{name_at}
use Rattle.scasp_answers_terms.specs.Tokens.Terms.{unfit, term_at}
use Rattle.scasp_answers_terms.specs.Tokens.Rows.{row_at}

abbrev pub term_of : Tm → Term
term_of (var x) = Var x
term_of (num q) = Num q
term_of (app f ts) = App f ts

-- stands for each row and each shape with a number that is too large
abbrev pub unfit_con : Con
unfit_con = con.Eq (term_of unfit) (term_of unfit)

abbrev pub row_con : Linear → Con
row_con r = if row_fits r then con.Row r else unfit_con

abbrev pub shape_con : ℕ → ℕ × ℕ → Con
shape_con x s = if is_place x && is_count s.1 then con.NotShape x s.0 s.1 else unfit_con

-- the shape `f/2` with a number of arguments
abbrev pub shape_at : (List ℕ → ℕ) → List Token → Parsed (ℕ × ℕ)
shape_at place = both (name_at place) (codes "/") (only (λ n. nat_lt 0 n) number_at)

-- what stands behind the variable of `V0 \= f/2`
abbrev pub behind_variable : (List ℕ → ℕ) → ℕ → List Token → Parsed Con
behind_variable place x = keyed (codes " \\= ") (shape_at place) (shape_con x)

abbrev pub not_shape_at : (List ℕ → ℕ) → List Token → Parsed Con
not_shape_at place (variable x ∷ ts) = behind_variable place x ts
not_shape_at place _ = None

-- the disequation of two terms; of a variable and a constant it is a shape
abbrev pub unequal : Tm → Tm → Con
unequal (var x) (app f nil) = con.NotShape x f 0
unequal t s = con.Neq (term_of t) (term_of s)

-- what stands behind the first of two terms
abbrev pub related_to : (List ℕ → ℕ) → Tm → List Token → Parsed Con
related_to place t ts =
    elim (past_text (codes " = ") ts) [
      | None ↦ keyed (codes " \\= ") (term_at place) (unequal t) ts
      | Some rest ↦ made (λ s. con.Eq (term_of t) (term_of s)) (term_at place rest)
    ]

-- two terms
abbrev pub related_at : (List ℕ → ℕ) → List Token → Parsed Con
related_at place ts = term_at place ts >>= (λ r. related_to place r.0 r.1)

-- `num(t)`, `not num(t)`
abbrev pub typed_at : (List ℕ → ℕ) → List Token → Parsed Con
typed_at place ts =
    elim (past_text (codes "num(") ts) [
      | None ↦ keyed (codes "not num(") (until (codes ")") (term_at place)) (λ t. con.NotNum (term_of t)) ts
      | Some rest ↦ made (λ t. con.Num (term_of t)) (until (codes ")") (term_at place) rest)
    ]

abbrev pub con_at : (List ℕ → ℕ) → List Token → Parsed Con
con_at place =
    any_of (
    (λ ts. made row_con (row_at ts))
    ∷ not_shape_at place
    ∷ related_at place
    ∷ typed_at place
    ∷ [])
