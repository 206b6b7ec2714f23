-- The end, and the end of the budget, come again.
use Rattle.std.specs.Prelude.{ℕ, List, ⊤}
use Rattle.scasp_search_rules.specs.Successors.Machine.{Machine, Outcome, answered, ended, overflowed, spent}
use Rattle.scasp_search_walk.specs.Slices.{Gives, Keeps}
use Rattle.scasp_search_walk.specs.Walks.{Tells}
use Rattle.scasp_search_walk.specs.declared.events.Advance.{Advance}
use Rattle.scasp_search_walk.specs.declared.events.Advance.TheVariants as advance

abbrev pub IsLast : {V : Type 0} → Outcome V → Type 0
IsLast (answered a) = ⊥
IsLast ended = ⊤
IsLast spent = ⊤
IsLast overflowed = ⊥

-- the end of the search, or want of memory
abbrev pub IsEnded : {A : Type 0} → Advance A → Type 0
IsEnded (advance.Answer a) = ⊥
IsEnded advance.Paused = ⊥
IsEnded advance.Ended = ⊤
IsEnded advance.Spent = ⊥
IsEnded advance.Overflow = ⊥
IsEnded advance.Memory = ⊤

-- the end of the budget, or want of memory
abbrev pub IsSpent : {A : Type 0} → Advance A → Type 0
IsSpent (advance.Answer a) = ⊥
IsSpent advance.Paused = ⊥
IsSpent advance.Ended = ⊥
IsSpent advance.Spent = ⊤
IsSpent advance.Overflow = ⊥
IsSpent advance.Memory = ⊤

abbrev pub Repeats : {A V : Type 0} → Outcome V → Advance A → Type 0
Repeats (answered a) e = ⊤
Repeats ended e = IsEnded e
Repeats spent e = IsSpent e
Repeats overflowed e = ⊤

-- Behind the end, or the end of the budget, a slice of any size has nothing but that, or want of memory.
abbrev pub LastComesAgain : (S A V : Type 0) → (A → V) → Type 0
LastComesAgain S A V value =
    (m : Machine S V) (budget calls after n k : ℕ) (old new next : List S) (last : Outcome V) (e : Advance A) → IsLast last → Tells m budget old calls last after new
    → Gives value m budget new after e next k → Keeps m budget new after n e k → Repeats last e
