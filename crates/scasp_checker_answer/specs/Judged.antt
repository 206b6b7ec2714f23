-- What an answer says of the faults that were looked for.
use Rattle.std.specs.Prelude.{◌≡◌, ⊤, Some, List, [], Result, Ok, Err}
use Rattle.scasp_checker_rules.specs.Refusals.{first}
use Rattle.scasp_checker_rules.specs.declared.refusal.Refusal.{Refusal}
use Rattle.scasp_checker_answer.specs.declared.judged.CheckErr.{CheckErr}
use Rattle.scasp_checker_answer.specs.declared.judged.CheckErr.TheVariants.{Refused, Memory}

-- a refusal is the first fault; want of memory says nothing
abbrev pub IsFirst : CheckErr → List Refusal → Type 0
IsFirst (Refused r) faults = first faults ≡ Some r
IsFirst Memory faults = ⊤

-- an answer is given where there is no fault, and else the first fault
abbrev pub Judges : {A : Type 0} → Result A CheckErr → List Refusal → Type 0
Judges (Ok x) faults = faults ≡ []
Judges (Err e) faults = IsFirst e faults
