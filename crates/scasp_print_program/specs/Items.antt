-- How the items of a body are written; a linear one as its row, over all variables that it lists.
use Rattle.std.specs.Prelude.{ℕ, Bool, true, false, List, [], ◌∷◌, ◌++◌, if◌then◌else◌, ℤ, pos, codes}
use Rattle.std.specs.Fmt.{signed_decimal}
use Rattle.std.specs.Ordering.{int_eq}
use Rattle.scasp_num.specs.Linear.{Linear, coefficient}
use Rattle.scasp_syntax.specs.View.{tm_of}
use Rattle.scasp_syntax.specs.declared.clause.Item.{Item}
use Rattle.scasp_syntax.specs.declared.clause.Item.TheVariants as form
use Rattle.scasp_syntax.specs.declared.clause.Lin.{Lin}
use Rattle.scasp_cert.specs.Text.Constraints.{plus_text, factor_text, relation_text}
use Rattle.scasp_cert.specs.Text.Separators.{separator_text}
use Rattle.scasp_reader.specs.declared.bodies.atoms.TheConstants.{DEPTH_LIMIT}
use Rattle.scasp_print_program.specs.Terms.{Style, variable_text, term_text, lit_text}

-- a coefficient and its variable; behind an earlier summand with a sign in front
abbrev pub summand_text : Style → Bool → ℕ → ℤ → List ℕ
summand_text w is_first x c = (if is_first then [] else plus_text c) ++ factor_text c ++ variable_text w x

-- `2*V0+0*V1-V2`: each listed variable with its coefficient in the row, which is 0 where it cancelled
abbrev pub summands_text : Style → Linear → Bool → List ℕ → List ℕ
summands_text w r is_first [] = []
summands_text w r is_first (x ∷ xs) = summand_text w is_first x (coefficient x r.coeffs) ++ summands_text w r false xs

-- the constant: alone where no variable is listed, else behind them, and left out where it is 0
abbrev pub constant_part : List ℕ → ℤ → List ℕ
constant_part [] c = signed_decimal c
constant_part (x ∷ xs) c = if int_eq c (pos 0) then [] else plus_text c ++ signed_decimal c

-- `2*V0-V1+3 #< 0`
unfoldable pub linear_text : Style → Lin → List ℕ
linear_text w l =
    summands_text w l.row true l.vars ++ constant_part l.vars l.row.constant ++ codes " " ++ relation_text l.row.op ++ codes " 0"

abbrev pub item_text : Style → Item → List ℕ
item_text w (form.Call l) = lit_text w l
item_text w (form.Equal t s) = term_text w DEPTH_LIMIT (tm_of t) ++ codes " = " ++ term_text w DEPTH_LIMIT (tm_of s)
item_text w (form.Differ t s) = term_text w DEPTH_LIMIT (tm_of t) ++ codes " \\= " ++ term_text w DEPTH_LIMIT (tm_of s)
item_text w (form.Linear l) = linear_text w l

-- items with commas between them
abbrev pub items_text : Style → Bool → List Item → List ℕ
items_text w is_first [] = []
items_text w is_first (i ∷ items) = separator_text is_first (codes ", ") ++ item_text w i ++ items_text w false items
