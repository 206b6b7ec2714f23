-- What the serving of commands prints, and the status with which it ends.
use Rattle.std.specs.Prelude.{◌≡◌, ◌⊎◌, ℕ, Option, None, Some, List, [], ◌∷◌, codes}
use Rattle.scasp_command_inputs.specs.Inputs.{Failed, IsNoProgram, IsProgram, Outside, Says}
use Rattle.scasp_command_inputs.specs.declared.status.Status.{Status}
use Rattle.scasp_command_inputs.specs.declared.status.Status.TheVariants.{Memory, Usage}
use Rattle.scasp_serve_top.specs.Inputs.{AreCommands, HasNoCommands}
use Rattle.scasp_serve_top.specs.Served.{Serves}
use Rattle.scasp_serve_words.specs.declared.command.Command.{Command}
use Rattle.scasp_syntax.specs.declared.program.Program.{Program}

abbrev pub usage_line : List ℕ
usage_line = codes "usage: scasp_serve PROGRAM COMMANDS\n"

-- the two files that are asked for
pub record Asked : Type 0 where
  pub program : List ℕ
  pub commands : List ℕ

-- what the words ask for
abbrev pub asked_of : List (List ℕ) → Option Asked
asked_of [] = None
asked_of (program ∷ []) = None
asked_of (program ∷ commands ∷ []) = Some (record { program = program; commands = commands })
asked_of (program ∷ commands ∷ word ∷ words) = None

-- This is printed for what the words ask for, and so it ends. The program is read before the commands. Want of memory may come before anything is
-- printed, and cuts the replies off.
pub data Outputs (asked : Option Asked) (o : Outside) (text : List ℕ) (status : Status) : Type 0 where
  nothing : Says [] Memory text status → Outputs asked o text status
  usage : asked ≡ None → Says usage_line Usage text status → Outputs asked o text status
  no_program : (a : Asked) → asked ≡ Some a → IsNoProgram o a.program text status → Outputs asked o text status
  no_commands : (a : Asked) (p : Program) (names : List (List ℕ)) → asked ≡ Some a → IsProgram (o.told a.program) p names
      → HasNoCommands o a.commands text status → Outputs asked o text status
  serves : (a : Asked) (p : Program) (names : List (List ℕ)) (commands : List Command) → asked ≡ Some a → IsProgram (o.told a.program) p names
      → AreCommands (o.told a.commands) commands → Serves p names commands text status → Outputs asked o text status

-- a read of a file that the words name failed
abbrev pub HasReadFault : Option Asked → Outside → Type 0
HasReadFault None o = ⊥
HasReadFault (Some a) o = Failed o a.program ⊎ Failed o a.commands
