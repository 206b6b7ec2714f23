-- Values for the free variables of a certificate. Those that the given constraints say to be numbers take the values of the point that meets
-- the rows and the disequations between numbers; each of the others takes a name of its own. Each given row is evaluated at these values.
use Rattle.std.specs.Prelude.{ℕ, zero, suc, Bool, true, if◌then◌else◌, is_some, List, [], ◌∷◌, ◌++◌, Option, None, Some, Result, Ok, Err}
use Rattle.std.specs.List.{list_all}
use Rattle.scasp_checker_rules.specs.BoundedTruth.{bounded_sum}
use Rattle.scasp_hint.specs.Sides.{minus_one, one}
use Rattle.scasp_num.specs.Arithmetic.{◌>>=◌, negation_of}
use Rattle.scasp_num.specs.Linear.{Linear}
use Rattle.scasp_num.specs.Number.{zero_number}
use Rattle.scasp_num.specs.Sums.{normal_of}
use Rattle.scasp_num.specs.declared.linear.Op.{Op}
use Rattle.scasp_num.specs.declared.linear.Op.TheVariants as op
use Rattle.scasp_num.specs.declared.linear.RatPair.{RatPair}
use Rattle.scasp_rows.specs.Samples.{sample_of, value_in}
use Rattle.scasp_rows.specs.declared.state.Halt.{Halt}
use Rattle.scasp_rows.specs.declared.state.Halt.TheVariants as halt
use Rattle.scasp_syntax.specs.Tm.{Tm, Tms, var, num, app, nil, cons, items}
use Rattle.scasp_syntax.specs.Values.{Sub, giving, under}
use Rattle.scasp_syntax.specs.View.{tm_of}
use Rattle.scasp_syntax.specs.declared.con.Con.{Con}
use Rattle.scasp_syntax.specs.declared.con.Con.TheVariants as con
use Rattle.scasp_unify.specs.Numbers.{is_among_numbers, number_var}
use Rattle.scasp_unify.specs.Parts.{Part, parts}
use Rattle.scasp_unify.specs.ResolvedRows.{resolved_row}
use Rattle.scasp_unify.specs.Resolver.{resolver}

-- the item, where there is one, as a list
abbrev pub single : {A : Type 0} → Option A → Option (List A)
single o = o >>= (λ a. Some (a ∷ []))

-- ---- disequations between numbers

-- the variable and the term are different; a term with a name is none of these
abbrev pub variable_apart : ℕ → Tm → Option Linear
variable_apart x (var y) = normal_of (record { x = x; value = one } ∷ record { x = y; value = minus_one } ∷ []) zero_number op.Ne
variable_apart x (num q) = normal_of (record { x = x; value = one } ∷ []) (negation_of q) op.Ne
variable_apart x (app f ts) = None

-- the same, where the term stands on the left
abbrev pub term_apart : ℕ → Tm → Option Linear
term_apart x (var y) = normal_of (record { x = x; value = minus_one } ∷ record { x = y; value = one } ∷ []) zero_number op.Ne
term_apart x (num q) = normal_of (record { x = x; value = minus_one } ∷ []) q op.Ne
term_apart x (app f ts) = None

abbrev pub part_apart : Part → Option Linear
part_apart p = if p.turned then term_apart p.at p.term else variable_apart p.at p.term

abbrev pub parts_apart : List Part → Option (List Linear)
parts_apart [] = Some []
parts_apart (p ∷ ps) = part_apart p >>= (λ r. parts_apart ps >>= (λ rs. Some (r ∷ rs)))

abbrev pub term_differ : List Con → Option (List Part) → Option (List (List Linear))
term_differ cs None = Some []
term_differ cs (Some ps) = if is_among_numbers cs ps then single (parts_apart ps) else Some []

abbrev pub row_differ : Op → Option Linear → Option (List (List Linear))
row_differ op.Eq o = Some []
row_differ op.Lt o = Some []
row_differ op.Le o = Some []
row_differ op.Ne o = single (single o)

-- the disequation that the constraint is, as the list of its parts; nothing where it is none, or not between numbers
abbrev pub con_differ : List Con → Con → Option (List (List Linear))
con_differ cs (con.Neq t u) = term_differ cs (parts (under (resolver cs) (tm_of t)) (under (resolver cs) (tm_of u)))
con_differ cs (con.Row r) = row_differ r.op (resolved_row (resolver cs) r)
con_differ cs (con.Eq t u) = Some []
con_differ cs (con.NotShape x f n) = Some []
con_differ cs (con.Num t) = Some []
con_differ cs (con.NotNum t) = Some []

-- the disequations between numbers, in order; none where a row is too large
abbrev pub all_differ : List Con → List Con → Option (List (List Linear))
all_differ cs [] = Some []
all_differ cs (d ∷ ds) = con_differ cs d >>= (λ rs. all_differ cs ds >>= (λ more. Some (rs ++ more)))

-- ---- rows

abbrev pub row_plain : Op → Option Linear → Option (List Linear)
row_plain op.Eq o = single o
row_plain op.Lt o = single o
row_plain op.Le o = single o
row_plain op.Ne o = Some []

-- the row that the constraint is, where it is no disequation
abbrev pub con_plain : Sub → Con → Option (List Linear)
con_plain s (con.Row r) = row_plain r.op (resolved_row s r)
con_plain s (con.Neq t u) = Some []
con_plain s (con.Eq t u) = Some []
con_plain s (con.NotShape x f n) = Some []
con_plain s (con.Num t) = Some []
con_plain s (con.NotNum t) = Some []

-- the rows that are no disequations, in order; none where one is too large
abbrev pub all_plain : Sub → List Con → Option (List Linear)
all_plain s [] = Some []
all_plain s (c ∷ cs) = con_plain s c >>= (λ rs. all_plain s cs >>= (λ more. Some (rs ++ more)))

-- ---- values

-- the point that meets them; every variable is 0 where there is none
abbrev pub point_by : Result (Option (List RatPair)) Halt → Option (List RatPair)
point_by (Ok None) = Some []
point_by (Ok (Some point)) = Some point
point_by (Err (halt.Unsat steps)) = Some []
point_by (Err halt.Overflow) = None
point_by (Err halt.Memory) = None

abbrev pub point_for : List Con → Option (List RatPair)
point_for cs =
    all_plain (resolver cs) cs >>= (λ rows. all_differ cs cs >>= (λ differ. point_by (sample_of rows differ)))

-- so many values, from that of variable x on, by a test of which variables are numbers; the names start with `fresh`
abbrev pub values_from : (ℕ → Bool) → List RatPair → ℕ → ℕ → ℕ → Tms
values_from is_number point fresh x zero = nil
values_from is_number point fresh x (suc n) =
    if is_number x then cons (num (value_in point x)) (values_from is_number point fresh (suc x) n)
    else cons (app fresh nil) (values_from is_number point (suc fresh) (suc x) n)

-- ---- the rows at these values

-- the value of a row is in the range, and so is each sum on the way to it; no other constraint has a value
abbrev pub is_in_range : Sub → Con → Bool
is_in_range v (con.Row r) = is_some (bounded_sum v r)
is_in_range v (con.Eq t u) = true
is_in_range v (con.Neq t u) = true
is_in_range v (con.NotShape x f n) = true
is_in_range v (con.Num t) = true
is_in_range v (con.NotNum t) = true

-- the values, where each row can be evaluated at them
abbrev pub evaluated : List Con → Tms → Option Tms
evaluated cs ts = if list_all (is_in_range (giving (items ts))) cs then Some ts else None

-- values for so many free variables; none where their arithmetic overflows, or that of a given row at them
abbrev pub sample : ℕ → List Con → ℕ → Option Tms
sample fresh cs n = point_for cs >>= (λ point. evaluated cs (values_from (number_var cs) point fresh 0 n))
