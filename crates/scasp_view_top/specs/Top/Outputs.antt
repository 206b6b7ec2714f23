-- What is shown, and the status with which the call ends.
use Rattle.std.specs.Prelude.{◌≡◌, ◌⊎◌, ℕ, Option, None, Some, List, [], codes}
use Rattle.scasp_command_inputs.specs.Inputs.{Failed, Outside, Says}
use Rattle.scasp_command_inputs.specs.declared.status.Status.{Status}
use Rattle.scasp_command_inputs.specs.declared.status.Status.TheVariants.{Memory, Usage}
use Rattle.scasp_view_top.specs.Top.Answers.{TellsAnswers}
use Rattle.scasp_view_top.specs.Top.Places.{TellsPlace}
use Rattle.scasp_view_top.specs.Top.Programs.{TellsProgram}
use Rattle.scasp_view_top.specs.declared.words.asked.Asked.{Asked}
use Rattle.scasp_view_top.specs.declared.words.asked.Asked.TheVariants.{Answers, Place, Program}

abbrev pub usage_line : List ℕ
usage_line = codes "usage: scasp_view PROGRAM | PROGRAM ANSWERS [--checks] [--once] [--query Q] [--plain] | at FILE BYTE\n"

-- what is told of what the words ask for
abbrev pub Tells : Asked → Outside → List ℕ → Status → Type 0
Tells (Place p) o text status = TellsPlace o p.file p.byte text status
Tells (Program file) o text status = TellsProgram o file text status
Tells (Answers program answers options) o text status = TellsAnswers o program answers options text status

-- This is printed for what the words ask for, and so the call ends. Want of memory may come before anything is printed.
pub data Outputs (asked : Option Asked) (o : Outside) (text : List ℕ) (status : Status) : Type 0 where
  nothing : Says [] Memory text status → Outputs asked o text status
  usage : asked ≡ None → Says usage_line Usage text status → Outputs asked o text status
  shown : (a : Asked) → asked ≡ Some a → Tells a o text status → Outputs asked o text status

-- a read of a file that the words name failed
abbrev pub HasFault : Asked → Outside → Type 0
HasFault (Place p) o = Failed o p.file
HasFault (Program file) o = Failed o file
HasFault (Answers program answers options) o = Failed o program ⊎ Failed o answers

abbrev pub HasReadFault : Option Asked → Outside → Type 0
HasReadFault None o = ⊥
HasReadFault (Some a) o = HasFault a o
