-- Words for contracts of private functions: what parts of a walk come to.
use Rattle.std.specs.Prelude.{◌≡◌, ℕ, List, Option, None, Some, Result, Ok, Err, ⊤}
use Rattle.scasp_search_constraints.specs.declared.assuming.step.SearchErr.{SearchErr}
use Rattle.scasp_search_constraints.specs.declared.assuming.step.SearchErr.TheVariants as errors
use Rattle.scasp_search_rules.specs.Successors.Machine.{Machine, answered, ended}
use Rattle.scasp_search_walk.specs.Slices.{Gives, Keeps, stop_of}
use Rattle.scasp_search_walk.specs.Walks.{Allows, BeginsWithCall, Reached, Tells}
use Rattle.scasp_search_walk.specs.declared.ahead.Ahead.{Ahead}
use Rattle.scasp_search_walk.specs.declared.ahead.Ahead.TheVariants as ahead
use Rattle.scasp_search_walk.specs.declared.events.Advance.{Advance}

-- what stands ahead of the states
abbrev pub Meets : {S A V : Type 0} → (A → V) → Machine S V → ℕ → ℕ → List S → List S → Ahead A → Type 0
Meets value m budget calls old new (ahead.Answer a) = Tells m budget old calls (answered (value a)) calls new
Meets value m budget calls old new ahead.Ended = Tells m budget old calls ended calls new
Meets value m budget calls old new ahead.Pays = Reached m budget old calls new calls × BeginsWithCall m new

-- what one look, and one step where it costs nothing, come to: something ahead, or the walk goes on
abbrev pub Passes : {S A V : Type 0} → (A → V) → Machine S V → ℕ → ℕ → List S → List S → Result (Option (Ahead A)) SearchErr → Type 0
Passes value m budget calls old new (Ok (Some a)) = Meets value m budget calls old new a
Passes value m budget calls old new (Ok None) = Reached m budget old calls new calls
Passes value m budget calls old new (Err errors.Overflow) = Allows m budget old calls
Passes value m budget calls old new (Err errors.Memory) = ⊤

-- what the steps that cost nothing come to
abbrev pub Arrives : {S A V : Type 0} → (A → V) → Machine S V → ℕ → ℕ → List S → List S → Result (Ahead A) SearchErr → Type 0
Arrives value m budget calls old new (Ok a) = Meets value m budget calls old new a
Arrives value m budget calls old new (Err errors.Overflow) = Allows m budget old calls
Arrives value m budget calls old new (Err errors.Memory) = ⊤

-- an answer of a walk; an overflow is one that it allows
abbrev pub Finishes : {S A V : Type 0} → (A → V) → Machine S V → ℕ → List S → ℕ → ℕ → Result (Advance A) SearchErr → List S → ℕ → Type 0
Finishes value m budget old calls n (Ok a) new after = Gives value m budget old calls a new after × Keeps m budget old calls n a after × (stop_of a ≡ None)
Finishes value m budget old calls n (Err errors.Overflow) new after = Allows m budget old calls
Finishes value m budget old calls n (Err errors.Memory) new after = ⊤
