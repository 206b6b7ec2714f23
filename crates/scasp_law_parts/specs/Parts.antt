-- Parts of a list of constraints that share no variable with the rest, as a substitution reads them.
use Rattle.std.specs.Prelude.{ℕ, Bool, ◌||◌, not, List}
use Rattle.std.specs.List.{list_all, filter}
use Rattle.scasp_search_rules.specs.Successors.Reading.{con_vars}
use Rattle.scasp_syntax.specs.Constraints.{Meets}
use Rattle.scasp_syntax.specs.Values.{Sub, Valuation}
use Rattle.scasp_syntax.specs.declared.con.Con.{Con}
use Rattle.scasp_unify.specs.Unification.{then_by}

-- some valuation meets the constraints as s reads them
pub record SatUnder (s : Sub) (cs : List Con) : Type 0 where
  pub by : Valuation
  pub meets : Meets (then_by s by.of) cs

-- each variable of the constraint, as s reads it, passes the test
abbrev pub lies_within : Sub → (ℕ → Bool) → Con → Bool
lies_within s p c = list_all p (con_vars s c)

-- no constraint has both a variable that passes the test and one that does not
abbrev pub are_parted : Sub → (ℕ → Bool) → List Con → Bool
are_parted s p cs = list_all (λ c. lies_within s p c || lies_within s (λ x. not (p x)) c) cs

-- the part of the test: the constraints all of whose variables pass
abbrev pub inside : Sub → (ℕ → Bool) → List Con → List Con
inside s p cs = filter (lies_within s p) cs

-- and the rest
abbrev pub outside : Sub → (ℕ → Bool) → List Con → List Con
outside s p cs = filter (λ c. not (lies_within s p c)) cs
