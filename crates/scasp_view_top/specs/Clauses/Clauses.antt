-- Clauses in words.
use Rattle.std.specs.Prelude.{ℕ, List, map, codes}
use Rattle.scasp_syntax.specs.Flat.{flat_body}
use Rattle.scasp_syntax.specs.declared.clause.Clause.{Clause}
use Rattle.scasp_syntax.specs.declared.clause.FlatItem.{FlatItem}
use Rattle.scasp_syntax.specs.declared.clause.FlatItem.TheVariants.{Call, Test}
use Rattle.scasp_cert.specs.Text.Constraints.{con_text}
use Rattle.scasp_cert.specs.Text.Terms.{lit_text}
use Rattle.scasp_print_program.specs.Programs.{body_text, clause_text, rule_variables}
use Rattle.scasp_print_program.specs.Terms.{Style}
use Rattle.scasp_view_top.specs.declared.trees.wording.Wording.{Wording}

abbrev pub item_text : List (List ℕ) → FlatItem → List ℕ
item_text names (Call lit) = lit_text names lit
item_text names (Test con) = con_text names con

-- the items of its flat body
abbrev pub items_in_words : List (List ℕ) → Clause → List (List ℕ)
items_in_words names c = map (item_text names) (flat_body c.body)

-- with the variables `V0`, `V1`, ..
abbrev pub style_of : List (List ℕ) → Clause → Style
style_of names c = record { names = names; variables = rule_variables 0 c.vars }

-- its body behind ` :- `; nothing of a fact
abbrev pub body_in_words : List (List ℕ) → Clause → List ℕ
body_in_words names c = body_text (style_of names c) (codes " :- ") c.body

abbrev pub in_words : List (List ℕ) → Clause → Wording
in_words names c = record { whole = clause_text names c; body = body_in_words names c; items = items_in_words names c }
