-- Parts of a walk through the states of a machine, and what is still to come of it.
use Rattle.std.specs.Prelude.{◌≡◌, ◌⊎◌, ℕ, ◌+◌, Bool, true, ◌||◌, List, [], ◌∷◌, None}
use Rattle.scasp_search_rules.specs.Successors.Machine.{Machine, Found, Finds, Outcome, overflowed, first_event}

-- From these states, with so many calls spent, this outcome comes first, with these calls and states behind it.
abbrev pub Tells : {S A : Type 0} → Machine S A → ℕ → List S → ℕ → Outcome A → ℕ → List S → Type 0
Tells {S} {A} m budget states calls outcome after rest =
    (may : Bool) × Finds m budget states calls (record { event = outcome; calls = after; may = may; rest = rest })

-- An overflow is allowed: the first event is one, or tells that a list was asked that overflows.
abbrev pub Allows : {S A : Type 0} → Machine S A → ℕ → List S → ℕ → Type 0
Allows {S} {A} m budget states calls =
    (found : Found S A) → Finds m budget states calls found → (found.event ≡ overflowed) ⊎ (found.may ≡ true)

-- A walk from the first states with so many calls goes on, after some steps, as one from the second: it meets the same event first. `may`
-- is whether a state on the way asks a list that overflows.
pub record Reached {S A : Type 0} (m : Machine S A) (budget : ℕ) (old : List S) (calls : ℕ) (new : List S) (after : ℕ) : Type 0 where
  pub steps : ℕ
  pub may : Bool
  pub same : (n : ℕ) (before : Bool) → first_event m budget (steps + n) old calls before ≡ first_event m budget n new after (before || may)

-- the first of the states costs a call
abbrev pub BeginsWithCall : {S A : Type 0} → Machine S A → List S → Type 0
BeginsWithCall m [] = ⊥
BeginsWithCall m (s ∷ ss) = (m.answer s ≡ None) × (m.pays s ≡ true)
