-- Worked linear items that meet the premises of the law, with their texts; items that do not.
use Rattle.std.specs.Prelude.{◌≡◌, ℕ, true, false, [], ◌∷◌, length, codes, None, Some, ℤ, pos, negsuc}
use Rattle.std.proofs.Common.{refl}
use Rattle.std.specs.Fmt.{digits}
use Rattle.std.specs.Char.{encode_utf8}
use Rattle.std.specs.Str.{is_utf8, chars}
use Rattle.std.proofs.lemmas.Str.{IsUtf8-from_is_utf8}
use Rattle.scasp_num.specs.declared.linear.Coeff.{Coeff}
use Rattle.scasp_num.specs.declared.linear.Op.TheVariants as op
use Rattle.scasp_num.specs.Gcd.{gcd, gcd_within}
use Rattle.scasp_syntax.specs.WellFormed.{is_item_below}
use Rattle.scasp_syntax.specs.declared.clause.Item.TheVariants as form
use Rattle.scasp_syntax.specs.declared.clause.Lin.{Lin}
use Rattle.scasp_print_program.specs.Terms.{Style}
use Rattle.scasp_print_program.specs.Items.{linear_text}
use Rattle.scasp_law_program_text.specs.CompoundReadback.Styles.{IsStyle}
use Rattle.scasp_law_program_text.specs.LinearReadback.Counting.{count_variables}

-- the names of lists, and the variables of a query that begins with these
abbrev style : Style
style = record { names = codes "[]" ∷ codes "[|]" ∷ []; variables = codes "X" ∷ codes "_" ∷ codes "Y" ∷ [] }

is_style : IsStyle style
unfolding is_utf8 chars encode_utf8
is_style = record {
  table = record {
    utf8 = (IsUtf8-from_is_utf8 (codes "[]") refl, (IsUtf8-from_is_utf8 (codes "[|]") refl, tt));
    distinct = (refl, (refl, tt));
    lists = record { nil = refl; pair = refl };
  };
  variables = refl;
}

abbrev times : ℤ → ℕ → Coeff
times c x = record { x = x; c = c }

abbrev fits : Lin → Type 0
fits l = is_item_below (length style.variables) (form.Linear l) ≡ true

abbrev fails : Lin → Type 0
fails l = is_item_below (length style.variables) (form.Linear l) ≡ false

-- `_` cancelled
abbrev an_item : Lin
an_item = record { vars = 0 ∷ 1 ∷ 2 ∷ []; row = record { coeffs = times (pos 2) 0 ∷ times (negsuc 0) 2 ∷ []; constant = pos 3; op = op.Lt } }

is_met : fits an_item × (count_variables style 0 an_item.vars ≡ Some 3)
unfolding gcd gcd_within
is_met = (refl, refl)

its_text : linear_text style an_item ≡ codes "2*X+0*_-Y+3 #< 0"
unfolding linear_text digits
its_text = refl

-- all variables cancelled
abbrev a_constant_row : Lin
a_constant_row = record { vars = 0 ∷ []; row = record { coeffs = []; constant = negsuc 0; op = op.Le } }

a_constant_fits : fits a_constant_row
unfolding gcd gcd_within
a_constant_fits = refl

a_constant_text : linear_text style a_constant_row ≡ codes "0*X-1 #=< 0"
unfolding linear_text digits
a_constant_text = refl

-- the largest numbers: none is added to another, so the sum has all of them
abbrev the_largest : Lin
the_largest = record {
  vars = 0 ∷ 2 ∷ [];
  row = record {
    coeffs = times (pos 170141183460469231731687303715884105727) 0 ∷ times (negsuc 170141183460469231731687303715884105725) 2 ∷ [];
    constant = negsuc 170141183460469231731687303715884105726;
    op = op.Ne;
  };
}

the_largest_fit : fits the_largest
unfolding gcd gcd_within
the_largest_fit = refl

-- ---- items that are not read back

one_past_the_largest : fails (record { vars = 0 ∷ []; row = record { coeffs = times (pos 170141183460469231731687303715884105728) 0 ∷ []; constant = pos 1; op = op.Lt } })
unfolding gcd gcd_within
one_past_the_largest = refl

-- `2*X+4 #< 0` is read as `X+2 #< 0`
a_common_divisor : fails (record { vars = 0 ∷ []; row = record { coeffs = times (pos 2) 0 ∷ []; constant = pos 4; op = op.Lt } })
unfolding gcd gcd_within
a_common_divisor = refl

-- `-X #= 0` is read as `X #= 0`
another_sign : fails (record { vars = 0 ∷ []; row = record { coeffs = times (negsuc 0) 0 ∷ []; constant = pos 0; op = op.Eq } })
unfolding gcd gcd_within
another_sign = refl

-- the variables are listed as they ascend
another_order : fails (record { vars = 2 ∷ 0 ∷ []; row = record { coeffs = []; constant = pos 1; op = op.Eq } })
unfolding gcd gcd_within
another_order = refl

-- nothing is written of a variable that is not listed
an_unlisted_variable : fails (record { vars = 0 ∷ []; row = record { coeffs = times (pos 1) 2 ∷ []; constant = pos 1; op = op.Eq } })
unfolding gcd gcd_within
an_unlisted_variable = refl

no_text : fails (record { vars = 3 ∷ []; row = record { coeffs = []; constant = pos 1; op = op.Eq } })
unfolding gcd gcd_within
no_text = refl

-- the first variable that is read is variable 0
another_number : count_variables style 0 (2 ∷ []) ≡ None
another_number = refl
