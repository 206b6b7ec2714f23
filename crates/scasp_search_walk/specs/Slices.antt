-- The states that are still to be gone through, as an object; and what comes of them in slices of calls. An answer of the code is told by
-- its value.
use Rattle.std.specs.Prelude.{◌≡◌, ◌⊎◌, ℕ, ◌+◌, ◌<◌, ◌≤◌, true, false, List, [], ◌∷◌, ◌++◌, Option, None, Some, Result, Ok, Err, ⊤}
use Rattle.scasp_search_constraints.specs.declared.assuming.step.SearchErr.{SearchErr}
use Rattle.scasp_search_constraints.specs.declared.assuming.step.SearchErr.TheVariants as errors
use Rattle.scasp_search_rules.specs.Successors.Machine.{Machine, Found, Finds, answered, ended, spent}
use Rattle.scasp_search_walk.specs.Walks.{Allows, Reached, Tells}
use Rattle.scasp_search_walk.specs.declared.events.Advance.{Advance}
use Rattle.scasp_search_walk.specs.declared.events.Advance.TheVariants as advance
use Rattle.scasp_search_walk.specs.declared.frontier.Look.{Look}
use Rattle.scasp_search_walk.specs.declared.frontier.Look.TheVariants as look

-- what the first of the states is
abbrev pub IsAhead : {S A V : Type 0} → (A → V) → Machine S V → S → List S → List S → Look A → Type 0
IsAhead value m s rest new (look.Answer a) = (m.answer s ≡ Some (Some (value a))) × (new ≡ rest)
IsAhead value m s rest new look.Nothing = (m.answer s ≡ None) × (m.pays s ≡ false) × (m.next s ++ rest ≡ new)
IsAhead value m s rest new look.Pays = (m.answer s ≡ None) × (m.pays s ≡ true) × (new ≡ s ∷ rest)
IsAhead value m s rest new look.Free = (m.answer s ≡ None) × (m.pays s ≡ false) × (new ≡ s ∷ rest)
IsAhead value m s rest new look.Ended = ⊥

abbrev pub IsEnd : {S A : Type 0} → List S → Look A → Type 0
IsEnd new (look.Answer a) = ⊥
IsEnd new look.Nothing = ⊥
IsEnd new look.Pays = ⊥
IsEnd new look.Free = ⊥
IsEnd new look.Ended = new ≡ []

-- what the first of the states is; there is none at the end
abbrev pub SeesFirst : {S A V : Type 0} → (A → V) → Machine S V → List S → List S → Look A → Type 0
SeesFirst value m [] new l = IsEnd new l
SeesFirst value m (s ∷ rest) new l = IsAhead value m s rest new l

-- the first of the states is an answer that overflows, or costs nothing and asks a list that overflows
abbrev pub LookOverflows : {S V : Type 0} → Machine S V → List S → Type 0
LookOverflows m [] = ⊥
LookOverflows m (s ∷ rest) = (m.answer s ≡ Some None) ⊎ ((m.pays s ≡ false) × (m.asks s ≡ true))

abbrev pub Sees : {S A V : Type 0} → (A → V) → Machine S V → List S → List S → Result (Look A) SearchErr → Type 0
Sees value m old new (Ok l) = SeesFirst value m old new l
Sees value m old new (Err errors.Overflow) = LookOverflows m old
Sees value m old new (Err errors.Memory) = ⊤

-- What comes after the first state stands in its place, but for states that come to nothing: the walk from there goes on as the walk from the
-- new states.
abbrev pub StepsTo : {S V : Type 0} → Machine S V → List S → List S → Type 0
StepsTo m [] new = ⊤
StepsTo m (s ∷ ss) new = (budget calls : ℕ) → Reached m budget (m.next s ++ ss) calls new calls

-- the first of the states asks a list that overflows
abbrev pub StepOverflows : {S V : Type 0} → Machine S V → List S → Type 0
StepOverflows m [] = ⊤
StepOverflows m (s ∷ ss) = m.asks s ≡ true

abbrev pub Steps : {S V : Type 0} → Machine S V → List S → List S → Result Unit SearchErr → Type 0
Steps m old new (Ok done) = StepsTo m old new
Steps m old new (Err errors.Overflow) = StepOverflows m old
Steps m old new (Err errors.Memory) = ⊤

-- From the states this comes, and then these are the states; a pause leaves what is to come as it was.
abbrev pub Gives : {S A V : Type 0} → (A → V) → Machine S V → ℕ → List S → ℕ → Advance A → List S → ℕ → Type 0
Gives value m budget old calls (advance.Answer a) new after = Tells m budget old calls (answered (value a)) after new
Gives value m budget old calls advance.Paused new after = Reached m budget old calls new after
Gives value m budget old calls advance.Ended new after = Tells m budget old calls ended after new
Gives value m budget old calls advance.Spent new after = Tells m budget old calls spent after new
Gives value m budget old calls advance.Overflow new after = Allows m budget old calls
Gives value m budget old calls advance.Memory new after = ⊤

-- the first event from the states needs more than n calls
abbrev pub NeedsMore : {S V : Type 0} → Machine S V → ℕ → List S → ℕ → ℕ → Type 0
NeedsMore {S} {V} m budget states calls n = (found : Found S V) → Finds m budget states calls found → calls + n < found.calls

-- An event comes within a slice of n calls; a pause comes exactly where the first event needs more.
abbrev pub Keeps : {S A V : Type 0} → Machine S V → ℕ → List S → ℕ → ℕ → Advance A → ℕ → Type 0
Keeps m budget old calls n (advance.Answer a) after = after ≤ calls + n
Keeps m budget old calls n advance.Ended after = after ≤ calls + n
Keeps m budget old calls n advance.Spent after = after ≤ calls + n
Keeps m budget old calls n advance.Paused after = (after ≡ calls + n) × NeedsMore m budget old calls n
Keeps m budget old calls n advance.Overflow after = ⊤
Keeps m budget old calls n advance.Memory after = ⊤

-- why the search has stopped behind an answer, if it has
abbrev pub stop_of : {A : Type 0} → Advance A → Option SearchErr
stop_of (advance.Answer a) = None
stop_of advance.Paused = None
stop_of advance.Ended = None
stop_of advance.Spent = None
stop_of advance.Overflow = Some errors.Overflow
stop_of advance.Memory = Some errors.Memory

-- These slices have these answers in order, from the states where the latest event left the search and after pauses of `held` calls, and lead
-- to the second states. Without the pauses the answers are the events of the run: each comes in the first slice that has the calls that it needs.
abbrev pub Comes : {S A V : Type 0} → (A → V) → Machine S V → ℕ → List S → ℕ → ℕ → List ℕ → List (Advance A) → List S → ℕ → Type 0
Comes value m budget states calls held [] [] new after = Reached m budget states calls new after × (after ≡ calls + held)
Comes value m budget states calls held [] (e ∷ es) new after = ⊥
Comes value m budget states calls held (n ∷ ns) [] new after = ⊥
Comes {S} value m budget states calls held (n ∷ ns) (advance.Answer a ∷ es) new after =
    (k : ℕ) × (rest : List S) × Tells m budget states calls (answered (value a)) k rest × (k ≤ calls + (held + n)) × Comes value m budget rest k 0 ns es new after
Comes value m budget states calls held (n ∷ ns) (advance.Paused ∷ es) new after =
    NeedsMore m budget states calls (held + n) × Comes value m budget states calls (held + n) ns es new after
Comes {S} value m budget states calls held (n ∷ ns) (advance.Ended ∷ es) new after =
    (k : ℕ) × (rest : List S) × Tells m budget states calls ended k rest × (k ≤ calls + (held + n)) × Comes value m budget rest k 0 ns es new after
Comes {S} value m budget states calls held (n ∷ ns) (advance.Spent ∷ es) new after =
    (k : ℕ) × (rest : List S) × Tells m budget states calls spent k rest × (k ≤ calls + (held + n)) × Comes value m budget rest k 0 ns es new after
Comes value m budget states calls held (n ∷ ns) (advance.Overflow ∷ es) new after = Allows m budget states calls
Comes value m budget states calls held (n ∷ ns) (advance.Memory ∷ es) new after = ⊤
