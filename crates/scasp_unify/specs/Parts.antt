-- The parts of an equation: what is left of it when names and arguments are taken apart.
use Rattle.std.specs.Prelude.{ℕ, Bool, true, false, ◌||◌, nat_eq, if◌then◌else◌, List, [], ◌∷◌, ◌++◌, Option, None, Some}
use Rattle.scasp_syntax.specs.Same.{same_number}
use Rattle.scasp_syntax.specs.Tm.{Tm, Tms, var, num, app, nil, cons}

abbrev mutual
  pub occurs : ℕ → Tm → Bool
  occurs x (var y) = nat_eq x y
  occurs x (num q) = false
  occurs x (app f ts) = occurs_among x ts

  pub occurs_among : ℕ → Tms → Bool
  occurs_among x nil = false
  occurs_among x (cons t ts) = occurs x t || occurs_among x ts

-- a variable against a term that has not this variable; turned where the variable stood on the right
pub record Part : Type 0 where
  pub at : ℕ
  pub term : Tm
  pub turned : Bool

abbrev pub part_if : ℕ → Tm → Bool → Option (List Part)
part_if x t turned = if occurs x t then None else Some (record { at = x; term = t; turned = turned } ∷ [])

abbrev pub both_parts : Option (List Part) → Option (List Part) → Option (List Part)
both_parts None o = None
both_parts (Some ps) None = None
both_parts (Some ps) (Some qs) = Some (ps ++ qs)

-- The parts of an equation, from the left: names and arguments are taken apart, identical parts are dropped.
-- None where two parts clash, or a variable stands inside the other side.
abbrev mutual
  pub parts : Tm → Tm → Option (List Part)
  parts (var x) (var y) = if nat_eq x y then Some [] else Some (record { at = x; term = var y; turned = false } ∷ [])
  parts (var x) (num r) = part_if x (num r) false
  parts (var x) (app g us) = part_if x (app g us) false
  parts (num q) (var y) = part_if y (num q) true
  parts (num q) (num r) = if same_number q r then Some [] else None
  parts (num q) (app g us) = None
  parts (app f ts) (var y) = part_if y (app f ts) true
  parts (app f ts) (num r) = None
  parts (app f ts) (app g us) = if nat_eq f g then parts_each ts us else None

  pub parts_each : Tms → Tms → Option (List Part)
  parts_each nil nil = Some []
  parts_each nil (cons u us) = None
  parts_each (cons t ts) nil = None
  parts_each (cons t ts) (cons u us) = both_parts (parts t u) (parts_each ts us)

abbrev pub left_side : Part → Tm
left_side p = if p.turned then p.term else var p.at

abbrev pub right_side : Part → Tm
right_side p = if p.turned then var p.at else p.term
