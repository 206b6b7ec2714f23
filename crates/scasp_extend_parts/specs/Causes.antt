-- What the errors tell.
use Rattle.std.specs.Prelude.{◌≡◌, ⊤, Option, None, Some, Result, Ok, Err}
use Rattle.scasp_checker_answer.specs.declared.judged.CheckErr.{CheckErr}
use Rattle.scasp_checker_answer.specs.declared.judged.CheckErr.TheVariants as checking
use Rattle.scasp_ground.specs.declared.error.GroundErr.{GroundErr}
use Rattle.scasp_ground.specs.declared.error.GroundErr.TheVariants as grounding
use Rattle.scasp_extend_parts.specs.declared.errors.ExtendErr.{ExtendErr}
use Rattle.scasp_extend_parts.specs.declared.errors.ExtendErr.TheVariants.{Refused, Joins, Given, TooLarge, Overflow, NotClosed, Memory}

abbrev pub of_check : CheckErr → ExtendErr
of_check (checking.Refused r) = Refused r
of_check checking.Memory = Memory

abbrev pub of_ground : GroundErr → ExtendErr
of_ground grounding.TooLarge = TooLarge
of_ground grounding.Overflow = Overflow
of_ground grounding.Memory = Memory

-- the error is the obstacle that there is; want of memory says nothing
abbrev pub IsCause : ExtendErr → Option ExtendErr → Type 0
IsCause (Refused r) why = why ≡ Some (Refused r)
IsCause (Joins fault) why = why ≡ Some (Joins fault)
IsCause Given why = why ≡ Some Given
IsCause TooLarge why = why ≡ Some TooLarge
IsCause Overflow why = why ≡ Some Overflow
IsCause (NotClosed at) why = why ≡ Some (NotClosed at)
IsCause Memory why = ⊤

-- an answer is given where there is no obstacle, and else the obstacle
abbrev pub Explains : {A : Type 0} → Result A ExtendErr → Option ExtendErr → Type 0
Explains (Ok x) why = why ≡ None
Explains (Err e) why = IsCause e why
