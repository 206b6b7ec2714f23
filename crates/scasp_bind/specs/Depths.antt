-- Depths of variables, which only fall.
use Rattle.std.specs.Prelude.{◌≡◌, ℕ, Bool, true, false, ◌&&◌, min, if◌then◌else◌, List, slice_get, Option, None, Some}
use Rattle.scasp_bind.specs.Kept.{with_depth}
use Rattle.scasp_bind.specs.declared.variable.Sort.{Sort}
use Rattle.scasp_bind.specs.declared.variable.Sort.TheVariants as sort
use Rattle.scasp_bind.specs.declared.variable.Variable.{Variable}

abbrev pub is_existential : Sort → Bool
is_existential sort.Existential = true
is_existential sort.Universal = false

-- the variable with this depth at most
abbrev pub lowest : ℕ → Variable → Variable
lowest d v = with_depth (min v.depth d) v

-- the same, where it is one of those that are lowered, and an existential
abbrev pub lowered : Bool → ℕ → Option Variable → Option Variable
lowered q d None = None
lowered q d (Some v) = Some (if q && is_existential v.sort then lowest d v else v)

-- the existentials of these variables have this depth at most; all else is as it was
abbrev pub Lowers : List Variable → List Variable → (ℕ → Bool) → ℕ → Type 0
Lowers vs ws q d = (y : ℕ) → slice_get ws y ≡ lowered (q y) d (slice_get vs y)
