-- Mentions of variables in the order noted, and how those of one variable lead to one another.
use Rattle.std.specs.Prelude.{◌≡◌, ℕ, suc, ◌+◌, ◌≤◌, Bool, nat_eq, if◌then◌else◌, List, [], ◌∷◌, length, map, filter, take, slice_get, Option, None, Some}
use Rattle.scasp_diseq.specs.declared.mentions.Mention.{Mention}

-- the places of the mentions of the variable
abbrev pub places_of : ℕ → List Mention → List ℕ
places_of x ms = map (λ m. m.place) (filter (λ m. nat_eq m.variable x) ms)

abbrev pub later_of : Option ℕ → Bool → Option ℕ
later_of (Some i) b = Some (suc i)
later_of None b = if b then Some 0 else None

-- the number of the latest mention of the variable
abbrev pub latest_of : ℕ → List Mention → Option ℕ
latest_of x [] = None
latest_of x (m ∷ ms) = later_of (latest_of x ms) (nat_eq m.variable x)

-- each mention leads to the one before it of the same variable
abbrev pub IsChained : List Mention → Type 0
IsChained ms = (i : ℕ) (m : Mention) → slice_get ms i ≡ Some m → m.before ≡ latest_of m.variable (take i ms)

-- this leads to the latest mention of each variable
abbrev pub Leads : (ℕ → Option ℕ) → List Mention → Type 0
Leads latest ms = (x : ℕ) → latest x ≡ latest_of x ms

-- of the mentions of the variable those below a number are still to be looked at, and this is the latest of them
pub record Before (x : ℕ) (ms : List Mention) (next : Option ℕ) : Type 0 where
  pub count : ℕ
  pub within : count ≤ length ms
  pub latest : next ≡ latest_of x (take count ms)

-- how many mentions there are up to this one
abbrev pub up_to : Option ℕ → ℕ
up_to None = 0
up_to (Some at) = at + 1
