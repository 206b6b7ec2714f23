-- Constraints found by their variables, and a walk that finds all that hang together with some of these.
use Rattle.std.specs.Prelude.{◌≡◌, ℕ, ◌<◌, Bool, true, Option, Some, None}
use Rattle.scasp_search_rules.specs.Successors.Reading.{among, con_vars}
use Rattle.scasp_syntax.specs.Tm.{Tm, var}
use Rattle.scasp_syntax.specs.Values.{Sub, under}
use Rattle.scasp_syntax.specs.declared.con.Con.{Con}
use Rattle.scasp_unify.specs.Parts.{occurs}
use Rattle.scasp_law_parts.specs.Parts.{lies_within}

-- what a variable stands for, by what it is bound to
abbrev pub read_by : Sub → ℕ → Option Tm → Tm
read_by s x None = var x
read_by s x (Some t) = under s t

-- some constraint is noted at the variable, or some variable that leads to one
pub data Carries (watch users : ℕ → ℕ → Bool) (x : ℕ) : Type 0 where
  watched : (i : ℕ) → watch x i ≡ true → Carries watch users x
  used : (y : ℕ) → users x y ≡ true → Carries watch users x

-- `at` gives the constraints by number, `bound` what a variable is bound to; `watch x i` where constraint i is noted at x, `users y x`
-- where x is noted at y. Each constraint is noted at each variable that stands in it, and each bound variable that carries something at
-- each variable of its term. No variable is bound to something with itself inside, through however many bindings: ranks fall.
pub record IsIndex (s : Sub) (bound : ℕ → Option Tm) (at : ℕ → Option Con) (watch users : ℕ → ℕ → Bool) : Type 0 where
  pub reads : (x : ℕ) → s x ≡ read_by s x (bound x)
  pub rank : ℕ → ℕ
  pub falls : (x y : ℕ) (t : Tm) → bound x ≡ Some t → occurs y t ≡ true → rank y < rank x
  pub watched : (i x : ℕ) (c : Con) → at i ≡ Some c → among x (con_vars var c) ≡ true → watch x i ≡ true
  pub used : (x y : ℕ) (t : Tm) → bound x ≡ Some t → occurs y t ≡ true → Carries watch users x → users y x ≡ true

-- A closed walk has met the variables of q, those of p among them. It goes on from each variable to those that are noted there, and each
-- constraint that is noted there lies within p.
pub record IsWalk (s : Sub) (at : ℕ → Option Con) (watch users : ℕ → ℕ → Bool) (p q : ℕ → Bool) : Type 0 where
  pub begins : (y : ℕ) → p y ≡ true → q y ≡ true
  pub rises : (y x : ℕ) → q y ≡ true → users y x ≡ true → q x ≡ true
  pub closed : (x i : ℕ) (c : Con) → q x ≡ true → watch x i ≡ true → at i ≡ Some c → lies_within s p c ≡ true

-- the constraint has a number
abbrev pub HasNumber : (ℕ → Option Con) → Con → Type 0
HasNumber at c = (i : ℕ) × (at i ≡ Some c)
