-- A program with its numbers: what is shown, and what is printed where nothing is.
use Rattle.std.specs.Prelude.{ℕ, List}
use Rattle.scasp_command_inputs.specs.Inputs.{IsNoProgram, IsWritten, Outside, Says}
use Rattle.scasp_command_inputs.specs.declared.status.Status.{Status}
use Rattle.scasp_command_inputs.specs.declared.status.Status.TheVariants.{Done}
use Rattle.scasp_syntax.specs.declared.program.Program.{Program}
use Rattle.scasp_view_top.specs.Program.Lines.{numbered_text}

-- The program in a file is shown as it is written, with its numbers, unless the file could not be read, or spells none.
pub data TellsProgram (o : Outside) (file text : List ℕ) (status : Status) : Type 0 where
  no_program : IsNoProgram o file text status → TellsProgram o file text status
  program : (p : Program) (names : List (List ℕ)) → IsWritten (o.told file) p names → Says (numbered_text names p.abducibles p.clauses p.queries) Done text status
      → TellsProgram o file text status
