-- What opened on the way to a line, the innermost first, and when values are an instance of it.
use Rattle.std.specs.Prelude.{◌≡◌, ℕ, zero, suc, ◌<◌, ◌≤◌, Bool, true, false, ◌&&◌, ◌||◌, not, nat_eq, nat_lt, IsTrue, IsFalse, List, [], ◌∷◌}
use Rattle.std.specs.List.{list_all, list_any}
use Rattle.scasp_syntax.specs.Constraints.{holds}
use Rattle.scasp_syntax.specs.Same.{same_tm}
use Rattle.scasp_syntax.specs.Tm.{Tm, app}
use Rattle.scasp_syntax.specs.Values.{Sub, all_under}
use Rattle.scasp_syntax.specs.declared.con.Con.{Con}
use Rattle.scasp_lines.specs.Known.{is_con_known}
use Rattle.scasp_unify.specs.Negations.{new_parts}

-- One entry of what opened: x is a variable of a clause, with a value in the domain; or x is f with n arguments, which the variables
-- from k on stand for; or c is true.
pub data Opened : Type 0 where
  ranges : ℕ → Opened
  shaped : ℕ → ℕ → ℕ → ℕ → Opened
  assumed : Con → Opened

-- the variable is one of so many from k on
abbrev pub is_part : ℕ → ℕ → ℕ → Bool
is_part k zero y = false
is_part k (suc n) y = nat_eq y k || is_part (suc k) n y

-- the entry is met over the domain where the variables have these values
abbrev pub is_met : List Tm → Sub → Opened → Bool
is_met d v (ranges x) = list_any (same_tm (v x)) d
is_met d v (shaped x f k n) = same_tm (v x) (app f (all_under v (new_parts k n)))
is_met d v (assumed c) = holds v c

-- all that opened is met
abbrev pub AllMet : List Tm → Sub → List Opened → Type 0
AllMet d v os = IsTrue (list_all (is_met d v) os)

-- the entry gives the variable a value
abbrev pub sets : Opened → ℕ → Bool
sets (ranges y) x = nat_eq x y
sets (shaped y f k n) x = is_part k n x
sets (assumed c) x = false

-- the variable is one of the n free ones, or an entry gives it a value
abbrev pub knows : ℕ → List Opened → ℕ → Bool
knows n [] x = nat_lt x n
knows n (o ∷ os) x = sets o x || knows n os x

-- no variable from the next one on is known, up to the top
abbrev pub AreUnknown : ℕ → List Opened → ℕ → ℕ → Type 0
AreUnknown n os next top = (y : ℕ) → next ≤ y → y < top → IsFalse (knows n os y)

-- none of so many variables from k on is known
abbrev pub none_known : (ℕ → Bool) → ℕ → ℕ → Bool
none_known known k zero = true
none_known known k (suc n) = not (known k) && none_known known (suc k) n

-- what the entry speaks of is known, and what it gives a value is not
abbrev pub fits : ℕ → List Opened → Opened → Bool
fits n os (ranges x) = not (knows n os x)
fits n os (shaped x f k m) = knows n os x && none_known (knows n os) k m
fits n os (assumed c) = is_con_known (knows n os) c

-- each entry fits what opened before it
abbrev pub well : ℕ → List Opened → Bool
well n [] = true
well n (o ∷ os) = well n os && fits n os o

-- the values are those of the n free variables, and meet what opened
pub record IsInstance (n : ℕ) (d : List Tm) (free : Sub) (os : List Opened) (v : Sub) : Type 0 where
  pub free_values : (x : ℕ) → IsTrue (nat_lt x n) → v x ≡ free x
  pub met : AllMet d v os
