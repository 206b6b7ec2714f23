-- A test that fails is a refusal at its line, for its reason.
use Rattle.std.specs.Prelude.{ℕ, Bool, false, if◌then◌else◌, Option, None, Some, List, [], ◌∷◌}
use Rattle.scasp_hint.specs.declared.fault.HintFault.{HintFault}
use Rattle.scasp_hint.specs.declared.fault.HintFault.TheVariants as fault
use Rattle.scasp_checker_rules.specs.declared.refusal.Reason.{Reason}
use Rattle.scasp_checker_rules.specs.declared.refusal.Reason.TheVariants as reason
use Rattle.scasp_checker_rules.specs.declared.refusal.Refusal.{Refusal}

abbrev pub refused : ℕ → Reason → List Refusal
refused at why = record { at = at; reason = why } ∷ []

-- a refusal at a line, or none where the test holds
abbrev pub wants : ℕ → Reason → Bool → List Refusal
wants at why ok = if ok then [] else refused at why

-- the test of the value, if there is one
abbrev pub of_some : {A : Type 0} → Option A → (A → Bool) → Bool
of_some None test = false
of_some (Some x) test = test x

-- no fault is want of memory
abbrev pub reason_of : HintFault → Reason
reason_of fault.Step = reason.HintStep
reason_of fault.Overflow = reason.HintOverflow
reason_of fault.NotReached = reason.HintNotReached

-- the fault of a hint, as a refusal
abbrev pub fault_at : ℕ → Option HintFault → List Refusal
fault_at at None = []
fault_at at (Some why) = refused at (reason_of why)

-- the refusal that counts
abbrev pub first : List Refusal → Option Refusal
first [] = None
first (r ∷ rs) = Some r
