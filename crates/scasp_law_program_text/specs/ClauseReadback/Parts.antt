-- Which clauses and queries have a text that is read as them, and what it says that they are read.
use Rattle.std.specs.Prelude.{◌≡◌, ℕ, ◌+◌, Bool, true, false, not, ◌&&◌, ◌==◌, nat_lt, nat_le, List, [], ◌∷◌, ◌++◌, map, length, Option, None, Some, Ok}
use Rattle.std.specs.List.{list_all}
use Rattle.scasp_num.specs.Arithmetic.{◌>>=◌}
use Rattle.scasp_syntax.specs.declared.atom.Atom.{Atom}
use Rattle.scasp_syntax.specs.declared.atom.Pred.{Pred}
use Rattle.scasp_syntax.specs.declared.clause.Clause.{Clause}
use Rattle.scasp_syntax.specs.declared.clause.Item.{Item}
use Rattle.scasp_syntax.specs.declared.clause.Query.{Query}
use Rattle.scasp_reader_tokens.specs.Tokens.{tokens_behind}
use Rattle.scasp_cert.specs.Text.Names.{text_at}
use Rattle.scasp_reader_terms.specs.declared.reader.TheConstants.{VARIABLE_LIMIT}
use Rattle.scasp_reader_terms.specs.declared.terms.TheConstants.{ARITY_LIMIT}
use Rattle.scasp_reader_terms.specs.Steps.{State, Read}
use Rattle.scasp_reader.specs.declared.texts.clauses.Part.{Part}
use Rattle.scasp_print_program.specs.Terms.{Style}
use Rattle.scasp_print_program.specs.Programs.{rule_variables, query_variable}
use Rattle.scasp_law_program_text.specs.TermReadback.Reading.{before}
use Rattle.scasp_law_program_text.specs.CompoundReadback.Styles.{is_anonymous, are_variables}
use Rattle.scasp_law_program_text.specs.CompoundReadback.Counting.{count_all}
use Rattle.scasp_law_program_text.specs.ClauseReadback.Fitting.{atom_fits, body_fits}
use Rattle.scasp_law_program_text.specs.ClauseReadback.Counting.{count_body}

-- so many variables, no more and no less
abbrev pub is_count : Option ℕ → ℕ → Bool
is_count None n = false
is_count (Some m) n = m == n

-- ---- clauses

-- how a clause is written: its variables are V0, V1, ..
abbrev pub rule_style : List (List ℕ) → ℕ → Style
rule_style names n = record { names = names; variables = rule_variables 0 n }

-- a fact, a rule or a denial; nothing is written of a denial without a body
abbrev pub parts_fit : Style → Option Atom → List Item → Bool
parts_fit w None items = body_fits w items
parts_fit w (Some a) [] = atom_fits w a
parts_fit w (Some a) (i ∷ items) = atom_fits w a && body_fits w (i ∷ items)

abbrev pub count_head : Style → ℕ → Option Atom → Option ℕ
count_head w n None = Some n
count_head w n (Some a) = count_all w n a.args

abbrev pub count_parts : Style → Option Atom → List Item → Option ℕ
count_parts w head items = count_head w 0 head >>= (λ n. count_body w n items)

-- within the limits, with its variables in the order of the text
abbrev pub clause_fits : List (List ℕ) → Clause → Bool
clause_fits names c =
    let w = rule_style names c.vars in
    nat_le c.vars VARIABLE_LIMIT && parts_fit w c.head c.body && is_count (count_parts w c.head c.body) c.vars

-- ---- queries

-- how a query is written: its variables have their names
abbrev pub query_style : List (List ℕ) → List (Option ℕ) → Style
query_style names variables = record { names = names; variables = map (query_variable names) variables }

-- the name of a variable stands in the table, and is not `_`
abbrev pub name_fits : List (List ℕ) → Option ℕ → Bool
name_fits names None = true
name_fits names (Some f) = nat_lt f (length names) && not (is_anonymous (text_at names f))

abbrev pub query_fits : List (List ℕ) → Query → Bool
query_fits names q =
    let w = query_style names q.names in
    are_variables w.variables && list_all (name_fits names) q.names && body_fits w q.body && is_count (count_body w 0 q.body) (length q.names)

-- ---- predicates that may be assumed

-- the name stands in the table, and has no more arguments than it may
abbrev pub abducible_fits : List (List ℕ) → Pred → Bool
abducible_fits names p = nat_lt p.name (length names) && nat_le p.arity ARITY_LIMIT

-- ---- reading

-- the reader with this table, where nothing was wrong
abbrev pub in_table : List (List ℕ) → State → State
in_table names s = record s { names = names; fault = None }

-- the reader behind a clause, of any kind, of these variables
abbrev pub behind_part : List (List ℕ) → List (List ℕ) → State → ℕ → List ℕ → State
behind_part names variables s at bytes = record s { tokens = tokens_behind 0 at bytes; is_behind_operand = false; names = names; variables = variables; fault = None }

-- The step reads the text before these bytes as the clause, of any kind, of these variables; the table stays.
abbrev pub ReadsPart : List (List ℕ) → Read Part → List ℕ → Part → List (List ℕ) → State → List ℕ → Type 0
ReadsPart names step text p variables s rest =
    (at : ℕ) → step (before (in_table names s) at (text ++ rest)) ≡ Ok (p, behind_part names variables s (at + length text) rest)
