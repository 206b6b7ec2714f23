-- Which terms have a text within the limits of a reader: names and variables of the style, numbers within M, brackets and arguments.
use Rattle.std.specs.Prelude.{ℕ, ◌-◌, Bool, true, ◌&&◌, nat_lt, nat_le, length, if◌then◌else◌}
use Rattle.scasp_num.specs.Number.{Number}
use Rattle.scasp_num.specs.Arithmetic.{in_range}
use Rattle.scasp_syntax.specs.Tm.{Tm, Tms, var, num, app, nil, cons, items}
use Rattle.scasp_cert.specs.Text.Terms.{is_pair}
use Rattle.scasp_reader_terms.specs.declared.terms.TheConstants.{ARITY_LIMIT}
use Rattle.scasp_print_program.specs.Terms.{Style}

abbrev pub number_fits : Number → Bool
number_fits q = in_range q.num && in_range q.den

-- arguments in brackets, where so many brackets may be opened; what is said of each of them is given
abbrev pub call_fits : ℕ → Tms → Bool → Bool
call_fits room ts arguments = nat_lt 0 room && nat_le (length (items ts)) ARITY_LIMIT && arguments

-- a name with arguments, of which is given what is said of them as they stand, and as those of a list
abbrev pub app_fits : ℕ → ℕ → Tms → Bool → Bool → Bool
app_fits room f nil arguments elements = true
app_fits room f (cons t ts) arguments elements = if is_pair f (cons t ts) then nat_lt 0 room && elements else call_fits room (cons t ts) arguments

-- the same as the rest of a list, whose bracket is open
abbrev pub rest_fits : ℕ → ℕ → Tms → Bool → Bool → Bool
rest_fits room f nil arguments elements = true
rest_fits room f (cons t ts) arguments elements = if is_pair f (cons t ts) then elements else call_fits room (cons t ts) arguments

abbrev mutual
  -- a term, where so many brackets may be opened
  pub fits : Style → ℕ → Tm → Bool
  fits w room (var x) = nat_lt x (length w.variables)
  fits w room (num q) = number_fits q
  fits w room (app f ts) = nat_lt f (length w.names) && app_fits room f ts (all_fit w (room - 1) ts) (pair_fits w (room - 1) ts)

  -- a term as the rest of a list, in whose bracket so many may be opened
  pub tail_fits : Style → ℕ → Tm → Bool
  tail_fits w room (var x) = nat_lt x (length w.variables)
  tail_fits w room (num q) = number_fits q
  tail_fits w room (app f ts) = nat_lt f (length w.names) && rest_fits room f ts (all_fit w (room - 1) ts) (pair_fits w room ts)

  -- each of the terms
  pub all_fit : Style → ℕ → Tms → Bool
  all_fit w room nil = true
  all_fit w room (cons t ts) = fits w room t && all_fit w room ts

  -- the two arguments of a pair: its first element, and then the rest
  pub pair_fits : Style → ℕ → Tms → Bool
  pair_fits w room nil = true
  pair_fits w room (cons t ts) = fits w room t && tails_fit w room ts

  pub tails_fit : Style → ℕ → Tms → Bool
  tails_fit w room nil = true
  tails_fit w room (cons t ts) = tail_fits w room t && tails_fit w room ts
