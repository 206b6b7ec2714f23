-- Queries with terms for their variables.
use Rattle.std.specs.Prelude.{ℕ, true, Option, None, Some, List, ◌++◌, map, codes, decimal}
use Rattle.scasp_syntax.specs.Programs.{numbered}
use Rattle.scasp_syntax.specs.Tm.{Tms, items}
use Rattle.scasp_syntax.specs.declared.clause.Query.{Query}
use Rattle.scasp_syntax.specs.declared.program.Program.{Program}
use Rattle.scasp_cert.specs.Text.Terms.{term_text}
use Rattle.scasp_print_program.specs.Items.{items_text}
use Rattle.scasp_print_program.specs.Terms.{Style}

-- each variable is written as the term with its number
abbrev pub style_by : List (List ℕ) → Tms → Style
style_by names terms = record { names = names; variables = map (term_text names) (items terms) }

-- `?- entitled(ben).`
abbrev pub asked_text : List (List ℕ) → Query → Tms → List ℕ
asked_text names q terms = codes "?- " ++ items_text (style_by names terms) true q.body ++ codes ".\n"

-- the same, or that there is no query of this number
abbrev pub line_text : List (List ℕ) → ℕ → Option Query → Tms → List ℕ
line_text names n None terms = codes "no query " ++ decimal n ++ codes "\n"
line_text names n (Some q) terms = asked_text names q terms

abbrev pub query_line : Program → List (List ℕ) → ℕ → Tms → List ℕ
query_line p names n terms = line_text names n (numbered p.queries n) terms
