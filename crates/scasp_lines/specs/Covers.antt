-- What opens for the other variables of a clause: a universal variable for each that its head bound to nothing.
use Rattle.std.specs.Prelude.{ℕ, zero, suc, List, ◌∷◌, Option, None, Some}
use Rattle.scasp_syntax.specs.Tm.{Tm, var}
use Rattle.scasp_syntax.specs.Values.{Sub}
use Rattle.scasp_lines.specs.Opened.{Opened, ranges}
use Rattle.scasp_lines.specs.Openings.{Opening, bound_to}

-- What the variables of a clause stand for, what opened, and the number of the next universal variable.
pub record Cover : Type 0 where
  pub bound : List (ℕ × Tm)
  pub opened : List Opened
  pub next : ℕ

-- the variable gets a universal one where it stands for nothing yet
abbrev pub with_universal : Option Tm → ℕ → Cover → Cover
with_universal None x c = record { bound = (x, var c.next) ∷ c.bound; opened = ranges c.next ∷ c.opened; next = suc c.next }
with_universal (Some t) x c = c

-- the same for so many variables from x on
abbrev pub with_universals : ℕ → ℕ → Cover → Cover
with_universals zero x c = c
with_universals (suc n) x c = with_universals n (suc x) (with_universal (bound_to c.bound x) x c)

-- the term, where there is one
abbrev pub term_or : Tm → Option Tm → Tm
term_or u None = u
term_or u (Some t) = t

-- what a variable of the clause stands for
abbrev pub value_of : List (ℕ × Tm) → Sub
value_of bound x = term_or (var x) (bound_to bound x)

abbrev pub cover_from : ℕ → Opening → Cover
cover_from next o = record { bound = o.bound; opened = o.opened; next = next }

-- the cover of a clause with so many variables behind what its head opened
abbrev pub covering : ℕ → ℕ → Opening → Cover
covering vars next o = with_universals vars 0 (cover_from next o)
