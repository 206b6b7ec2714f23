-- The lines of a program with the number of each clause and of each query in front; a predicate that may be assumed has no number.
use Rattle.std.specs.Prelude.{ℕ, ◌+◌, Bool, nat_lt, if◌then◌else◌, List, [], ◌∷◌, ◌++◌, length, map, flat_map, codes, decimal}
use Rattle.scasp_syntax.specs.declared.atom.Pred.{Pred}
use Rattle.scasp_syntax.specs.declared.clause.Clause.{Clause}
use Rattle.scasp_syntax.specs.declared.clause.Query.{Query}
use Rattle.scasp_print_program.specs.Abducibles.{abducible_text}
use Rattle.scasp_print_program.specs.Programs.{clause_text, query_text, written}

-- A number, and the text of what has it. A clause is written in the program, or is a generated denial.
-- A predicate that may be assumed has no number.
pub data Line : Type 0 where
  abducible : List ℕ → Line
  clause : ℕ → Bool → List ℕ → Line
  query : ℕ → List ℕ → Line

-- what stands between the number of a clause and the clause
abbrev pub mark : Bool → List ℕ
mark is_generated = if is_generated then codes " generated\t" else codes "\t"

-- `7`, or `12 generated`, or `query 1`, or nothing, and a tab before the text
abbrev pub line_text : Line → List ℕ
line_text (abducible text) = codes "\t" ++ text
line_text (clause n is_generated text) = decimal n ++ mark is_generated ++ text
line_text (query n text) = codes "query " ++ decimal n ++ codes "\t" ++ text

abbrev pub text_of : List Line → List ℕ
text_of lines = flat_map line_text lines

-- ---- which lines a program has

-- the predicates that may be assumed
abbrev pub abducible_line : List (List ℕ) → Pred → Line
abducible_line names p = abducible (abducible_text names p)

abbrev pub abducible_lines : List (List ℕ) → List Pred → List Line
abducible_lines names ps = map (abducible_line names) ps

-- clause n, where so many are written
abbrev pub clause_line : List (List ℕ) → ℕ → ℕ → Clause → Line
clause_line names count n c = clause n (nat_lt count n) (clause_text names c)

-- the clauses, of which the first is clause n
abbrev pub clause_lines : List (List ℕ) → ℕ → ℕ → List Clause → List Line
clause_lines names count n [] = []
clause_lines names count n (c ∷ cs) = clause_line names count n c ∷ clause_lines names count (n + 1) cs

abbrev pub query_line : List (List ℕ) → ℕ → Query → Line
query_line names n q = query n (query_text names q)

-- the queries, of which the first is query n
abbrev pub query_lines : List (List ℕ) → ℕ → List Query → List Line
query_lines names n [] = []
query_lines names n (q ∷ qs) = query_line names n q ∷ query_lines names (n + 1) qs

-- all clauses of a program, from 1
abbrev pub numbered_clauses : List (List ℕ) → List Clause → List Query → List Line
numbered_clauses names clauses queries = clause_lines names (length (written clauses queries)) 1 clauses

-- before them the predicates that may be assumed, and behind them its queries, from 1
abbrev pub numbered_text : List (List ℕ) → List Pred → List Clause → List Query → List ℕ
numbered_text names abducibles clauses queries =
    text_of (abducible_lines names abducibles) ++ text_of (numbered_clauses names clauses queries) ++ text_of (query_lines names 1 queries)
