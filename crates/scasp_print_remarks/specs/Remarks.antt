-- The remarks behind the block of an answer: what it says of the query's variables, and over which domains it holds.
use Rattle.std.specs.Prelude.{ℕ, ◌==◌, Bool, true, false, if◌then◌else◌, List, [], ◌∷◌, ◌++◌, length, flat_map, Option, None, Some, codes}
use Rattle.std.specs.List.{list_any}
use Rattle.scasp_fixed.specs.Fixed.{telling}
use Rattle.scasp_syntax.specs.Tm.{Tm, Tms, nil, cons, items}
use Rattle.scasp_syntax.specs.Values.{Sub, under}
use Rattle.scasp_syntax.specs.declared.con.Con.{Con}
use Rattle.scasp_unify.specs.Solving.{sub_of}
use Rattle.scasp_unify.specs.Unification.{term_vars}
use Rattle.scasp_unify.specs.declared.bindings.Binding.{Binding}
use Rattle.scasp_cert.specs.Certificate.{Certificate}
use Rattle.scasp_cert.specs.Flat.{is_flat}
use Rattle.scasp_cert.specs.Text.Constraints.{con_text}
use Rattle.scasp_cert.specs.Text.Names.{text_at}
use Rattle.scasp_cert.specs.Text.Separators.{separator_text}
use Rattle.scasp_cert.specs.Text.Terms.{term_text}
use Rattle.scasp_project.specs.Projection.{projection}
use Rattle.scasp_project.specs.declared.projecting.Projected.{Projected}
use Rattle.scasp_shorten.specs.Shortest.{shortest}
use Rattle.scasp_project.specs.declared.projecting.Projected.TheVariants as projected

-- ---- values

-- the name of a variable of a query, with the term that the answer gives it
pub record Value : Type 0 where
  pub name : ℕ
  pub term : Tm

-- one value, or none for a variable that is written `_`
abbrev pub value_of : Option ℕ → Tm → List Value
value_of None t = []
value_of (Some name) t = record { name = name; term = t } ∷ []

-- the values of the named variables
abbrev pub values_of : List (Option ℕ) → Tms → List Value
values_of [] ts = []
values_of (v ∷ vs) nil = []
values_of (v ∷ vs) (cons t ts) = value_of v t ++ values_of vs ts

-- `% X = f(a,V0)`, or `% X = f(a,7)` where V0 stands for 7
abbrev pub value_line : List (List ℕ) → Sub → Value → List ℕ
value_line names s v = codes "% " ++ text_at names v.name ++ codes " = " ++ term_text names (under s v.term) ++ codes "\n"

-- the variables that the values speak of
abbrev pub shown_variables : List Value → List ℕ
shown_variables vs = flat_map (λ v. term_vars v.term) vs

-- ---- what is given of these variables

-- `V0 \= a, V0 \= b`
abbrev pub cons_text : List (List ℕ) → Bool → List Con → List ℕ
cons_text names is_first [] = []
cons_text names is_first (c ∷ cs) = separator_text is_first (codes ", ") ++ con_text names c ++ cons_text names false cs

-- `% where C, C` for the first alternative, and `% or C, C` for each further one
abbrev pub alternative_lines : List (List ℕ) → Bool → List (List Con) → List ℕ
alternative_lines names is_first [] = []
alternative_lines names is_first (cs ∷ more) =
    (if is_first then codes "% where " else codes "% or ") ++ cons_text names true cs ++ codes "\n" ++ alternative_lines names false more

-- some alternative has no constraints, so all values of the variables will do
abbrev pub has_empty : List (List Con) → Bool
has_empty lists = list_any (λ cs. length cs == 0) lists

abbrev pub alternatives_text : List (List ℕ) → List (List Con) → List ℕ
alternatives_text names lists =
    if length lists == 0 then codes "% where false\n" else if has_empty lists then [] else alternative_lines names true lists

-- what is told by a sample of what the given constraints say of the variables: the numbers that rows fix
abbrev pub numbers_told : List Tm → Option Projected → List Binding
numbers_told sample None = []
numbers_told sample (Some projected.TooMany) = []
numbers_told sample (Some (projected.Alternatives lists)) = (telling lists sample).values

-- and what is left of it, in the shortest form; none where that overflows
abbrev pub where_text : List (List ℕ) → List Tm → Option Projected → List ℕ
where_text names sample None = codes "% where overflow\n"
where_text names sample (Some projected.TooMany) = codes "% where more\n"
where_text names sample (Some (projected.Alternatives lists)) = alternatives_text names (shortest (telling lists sample).lists)

-- ---- all

-- the remark on the domains of an answer: a flat one has a closed domain above each
abbrev pub domain_line : Certificate → List ℕ
domain_line c = if is_flat c then codes "% domain any\n" else codes "% domain closed\n"

-- the values, with what a projection says of their variables
abbrev pub told_text : List (List ℕ) → List Value → List Tm → Option Projected → List ℕ
told_text names vs sample p = flat_map (value_line names (sub_of (numbers_told sample p))) vs ++ where_text names sample p

-- the values, and what the given constraints say of their variables
abbrev pub values_text : List (List ℕ) → List Con → List Tm → List Value → List ℕ
values_text names given sample vs = told_text names vs sample (projection given (shown_variables vs))

-- the remarks on an answer to a query with these variables
abbrev pub remarks_text : List (List ℕ) → List (Option ℕ) → Certificate → List ℕ
remarks_text names variables c = values_text names c.given (items c.sample) (values_of variables c.terms) ++ domain_line c
