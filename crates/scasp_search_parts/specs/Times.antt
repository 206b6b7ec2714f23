-- Something at all its times: now and before each change.
use Rattle.std.specs.Prelude.{ℕ, ◌-◌, List, ◌∷◌, drop, length}
use Rattle.scasp_trail.specs.Past.{Past}

-- now and before each change, the latest first
abbrev pub times : {T : Type 0} → Past T → List (List T)
times p = p.now ∷ p.before

-- the times up to the one after so many changes
abbrev pub times_at : {T : Type 0} → ℕ → Past T → List (List T)
times_at n p = drop (length p.before - n) (times p)

-- one change later
abbrev pub after : {T : Type 0} → Past T → List T → Past T
after p new = record { now = new; before = times p }
