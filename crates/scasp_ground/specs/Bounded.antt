-- Grounding within limits: how many instances there are, and tests by arithmetic in the range of the numbers.
use Rattle.std.specs.Prelude.{ℕ, ◌+◌, ◌^◌, Bool, true, false, not, nat_lt, if◌then◌else◌, List, [], ◌∷◌, length, Option, Some, is_some}
use Rattle.std.specs.List.{list_any, flat_map}
use Rattle.std.specs.Option.{option_map}
use Rattle.scasp_checker_rules.specs.BoundedTruth.{bounded_sum}
use Rattle.scasp_model.specs.Grounding.{choices}
use Rattle.scasp_num.specs.Arithmetic.{◌>>=◌}
use Rattle.scasp_num.specs.Linear.{compares}
use Rattle.scasp_syntax.specs.Constraints.{holds}
use Rattle.scasp_syntax.specs.Flat.{flat_body}
use Rattle.scasp_syntax.specs.Tm.{Tm}
use Rattle.scasp_syntax.specs.Values.{Sub, giving}
use Rattle.scasp_syntax.specs.declared.clause.Clause.{Clause}
use Rattle.scasp_syntax.specs.declared.clause.FlatItem.{FlatItem}
use Rattle.scasp_syntax.specs.declared.clause.FlatItem.TheVariants as flat
use Rattle.scasp_syntax.specs.declared.con.Con.{Con}
use Rattle.scasp_syntax.specs.declared.con.Con.TheVariants as con
use Rattle.scasp_syntax.specs.declared.program.Program.{Program}

-- how many instances the clauses have over so many members, before any is dropped
abbrev pub count_over : ℕ → List Clause → ℕ
count_over members [] = 0
count_over members (c ∷ clauses) = members ^ c.vars + count_over members clauses

-- more than 1,000,000 of them
abbrev pub is_too_large : List Tm → Program → Bool
is_too_large d p = nat_lt 1000000 (count_over (length d) p.clauses)

-- whether the constraint holds; none where the sum of a row overflows
abbrev pub tested : Sub → Con → Option Bool
tested v (con.Row r) = option_map (λ sum. compares r.op sum.num) (bounded_sum v r)
tested v (con.Eq t u) = Some (holds v (con.Eq t u))
tested v (con.Neq t u) = Some (holds v (con.Neq t u))
tested v (con.NotShape x f n) = Some (holds v (con.NotShape x f n))
tested v (con.Num t) = Some (holds v (con.Num t))
tested v (con.NotNum t) = Some (holds v (con.NotNum t))

-- whether all hold, in order up to the first that does not; none where one of these overflows
abbrev pub all_tested : Sub → List Con → Option Bool
all_tested v [] = Some true
all_tested v (c ∷ cs) = tested v c >>= (λ b. if b then all_tested v cs else Some false)

-- the constraint that a flat item is
abbrev pub test_of : FlatItem → List Con
test_of (flat.Call l) = []
test_of (flat.Test c) = c ∷ []

-- the tests of a clause, in flat order
abbrev pub body_tests : Clause → List Con
body_tests c = flat_map test_of (flat_body c.body)

-- some instance overflows
abbrev pub clause_overflows : List Tm → Clause → Bool
clause_overflows d c = list_any (λ ts. not (is_some (all_tested (giving ts) (body_tests c)))) (choices d c.vars)

abbrev pub overflows : List Tm → Program → Bool
overflows d p = list_any (clause_overflows d) p.clauses
