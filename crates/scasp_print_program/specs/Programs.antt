-- How a program is written: its abducible predicates, its clauses without the generated denials, and its queries, each on a line.
use Rattle.std.specs.Prelude.{ℕ, zero, suc, ◌+◌, ◌-◌, Bool, true, false, ◌&&◌, ◌==◌, is_none, List, [], ◌∷◌, ◌++◌, map, filter, flat_map, length, take, drop, if◌then◌else◌, codes, Option, None, Some}
use Rattle.scasp_syntax.specs.Denials.{denial_of}
use Rattle.scasp_syntax.specs.Programs.{predicates_in}
use Rattle.scasp_syntax.specs.Same.{same_lit}
use Rattle.scasp_syntax.specs.declared.atom.Atom.{Atom}
use Rattle.scasp_syntax.specs.declared.atom.Pred.{Pred}
use Rattle.scasp_syntax.specs.declared.clause.Clause.{Clause}
use Rattle.scasp_syntax.specs.declared.clause.Item.{Item}
use Rattle.scasp_syntax.specs.declared.clause.Item.TheVariants as form
use Rattle.scasp_syntax.specs.declared.clause.Query.{Query}
use Rattle.scasp_cert.specs.Text.Names.{text_at}
use Rattle.scasp_cert.specs.Text.Terms.{var_text}
use Rattle.scasp_print_program.specs.Terms.{Style, atom_text}
use Rattle.scasp_print_program.specs.Abducibles.{abducible_text}
use Rattle.scasp_print_program.specs.Items.{items_text}

-- ---- the texts of variables

-- `V0`, `V1`, ..: the texts of n variables, from the variable x on
abbrev pub rule_variables : ℕ → ℕ → List (List ℕ)
rule_variables x zero = []
rule_variables x (suc n) = var_text x ∷ rule_variables (x + 1) n

-- the name of a query's variable; `_` for one without a name
abbrev pub query_variable : List (List ℕ) → Option ℕ → List ℕ
query_variable names None = codes "_"
query_variable names (Some f) = text_at names f

-- ---- clauses and queries

-- what stands before a body
abbrev pub head_text : Style → Option Atom → List ℕ
head_text w None = []
head_text w (Some a) = atom_text w a

-- a body behind a sign; an empty one behind nothing
abbrev pub body_text : Style → List ℕ → List Item → List ℕ
body_text w sign [] = []
body_text w sign (i ∷ items) = sign ++ items_text w true (i ∷ items)

-- the sign between a head and a body; that of a denial begins its line
abbrev pub sign_text : Option Atom → List ℕ
sign_text None = codes ":- "
sign_text (Some a) = codes " :- "

-- `p(V0) :- q(V0), not r.`, and the line's end
unfoldable pub clause_text : List (List ℕ) → Clause → List ℕ
clause_text names c =
    let w : Style = record { names = names; variables = rule_variables 0 c.vars } in
    head_text w c.head ++ body_text w (sign_text c.head) c.body ++ codes ".\n"

-- `?- p(X), q(_).`, and the line's end
unfoldable pub query_text : List (List ℕ) → Query → List ℕ
query_text names q =
    let w : Style = record { names = names; variables = map (query_variable names) q.names } in
    codes "?- " ++ items_text w true q.body ++ codes ".\n"

-- ---- generated denials

-- both are calls of the same literal
abbrev pub is_same_call : Item → Item → Bool
is_same_call (form.Call l) (form.Call k) = same_lit l k
is_same_call _ _ = false

abbrev pub are_same_calls : List Item → List Item → Bool
are_same_calls [] [] = true
are_same_calls (i ∷ items) (k ∷ others) = is_same_call i k && are_same_calls items others
are_same_calls _ _ = false

-- the clause is the denial that keeps the predicate apart from its negation
abbrev pub is_denial_of : Pred → Clause → Bool
is_denial_of p c = is_none c.head && c.vars == p.arity && are_same_calls c.body (denial_of p).body

-- the clauses are the denials of these predicates, in order
abbrev pub are_denials : List Pred → List Clause → Bool
are_denials [] [] = true
are_denials (p ∷ ps) (c ∷ cs) = is_denial_of p c && are_denials ps cs
are_denials _ _ = false

-- the predicates with `-`, which have generated denials
abbrev pub negated_predicates : List Clause → List Query → List Pred
negated_predicates clauses queries = filter (λ p. p.minus) (predicates_in clauses queries)

-- the clauses in front of the generated denials; all, where they do not end with these
abbrev pub written : List Clause → List Query → List Clause
written clauses queries =
    let ps = negated_predicates clauses queries in
    let n = length clauses - length ps in
    if are_denials ps (drop n clauses) then take n clauses else clauses

-- ---- programs

unfoldable pub program_text : List (List ℕ) → List Pred → List Clause → List Query → List ℕ
program_text names abducibles clauses queries =
    flat_map (abducible_text names) abducibles
    ++ flat_map (clause_text names) (written clauses queries)
    ++ flat_map (query_text names) queries
