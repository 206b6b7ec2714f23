-- How constraints are written.
use Rattle.std.specs.Prelude.{ℕ, Bool, true, false, ◌==◌, List, [], ◌∷◌, ◌++◌, if◌then◌else◌, ℤ, pos, negsuc, int_lt, codes, decimal}
use Rattle.std.specs.Fmt.{signed_decimal}
use Rattle.std.specs.Ordering.{int_eq}
use Rattle.scasp_num.specs.Linear.{Linear}
use Rattle.scasp_num.specs.declared.linear.Coeff.{Coeff}
use Rattle.scasp_num.specs.declared.linear.Op.{Op}
use Rattle.scasp_num.specs.declared.linear.Op.TheVariants as op
use Rattle.scasp_syntax.specs.View.{tm_of}
use Rattle.scasp_syntax.specs.declared.con.Con.{Con}
use Rattle.scasp_syntax.specs.declared.con.Con.TheVariants as con
use Rattle.scasp_cert.specs.Text.Names.{name_text, constant_text}
use Rattle.scasp_cert.specs.Text.Terms.{var_text, term_text}

-- the sign between a sum and what follows; a negative number brings its own
abbrev pub plus_text : ℤ → List ℕ
plus_text c = if int_lt c (pos 0) then [] else codes "+"

-- a coefficient in front of its variable; 1 and -1 are written by sign alone
abbrev pub factor_text : ℤ → List ℕ
factor_text c =
    if int_eq c (pos 1) then [] else if int_eq c (negsuc 0) then codes "-" else signed_decimal c ++ codes "*"

-- a coefficient and its variable; behind an earlier summand with a sign in front
abbrev pub summand_text : Bool → Coeff → List ℕ
summand_text is_first k = (if is_first then [] else plus_text k.c) ++ factor_text k.c ++ var_text k.x

-- `2*V0-V1`
abbrev pub summands_text : Bool → List Coeff → List ℕ
summands_text is_first [] = []
summands_text is_first (k ∷ ks) = summand_text is_first k ++ summands_text false ks

-- the constant: alone where there is no variable, else behind them, and left out where it is 0
abbrev pub constant_part : List Coeff → ℤ → List ℕ
constant_part [] c = signed_decimal c
constant_part (k ∷ ks) c = if int_eq c (pos 0) then [] else plus_text c ++ signed_decimal c

-- `#=`, `#<`, `#=<`, `#<>`
abbrev pub relation_text : Op → List ℕ
relation_text op.Eq = codes "#="
relation_text op.Lt = codes "#<"
relation_text op.Le = codes "#=<"
relation_text op.Ne = codes "#<>"

-- `2*V0-V1+3 #< 0`
abbrev pub row_text : Linear → List ℕ
row_text r =
    summands_text true r.coeffs ++ constant_part r.coeffs r.constant ++ codes " " ++ relation_text r.op ++ codes " 0"

-- the name and the number of arguments of a shape; the number 0 is left out
abbrev pub shape_text : List (List ℕ) → ℕ → ℕ → List ℕ
shape_text names f n = if n == 0 then constant_text names f else name_text names f ++ codes "/" ++ decimal n

abbrev pub con_text : List (List ℕ) → Con → List ℕ
con_text names (con.Eq t s) = term_text names (tm_of t) ++ codes " = " ++ term_text names (tm_of s)
con_text names (con.Neq t s) = term_text names (tm_of t) ++ codes " \\= " ++ term_text names (tm_of s)
con_text names (con.NotShape x f n) = var_text x ++ codes " \\= " ++ shape_text names f n
con_text names (con.Num t) = codes "num(" ++ term_text names (tm_of t) ++ codes ")"
con_text names (con.NotNum t) = codes "not num(" ++ term_text names (tm_of t) ++ codes ")"
con_text names (con.Row r) = row_text r
