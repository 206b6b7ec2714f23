use Rattle.std.proofs.Common.{map, take}
use Rattle.std.specs.Prelude.{All}
use Rattle.scasp_syntax.specs.declared.program.Program.{Program}
use Rattle.scasp_answers.specs.Files.View.{entry_of}
use Rattle.scasp_command_check.specs.Outputs.{KeepsWorth}
use Rattle.scasp_command_check.proofs.checking.see_entries.Given as goal

abbrev pub invariant-loop-entry : goal.invariant-loop-entry
invariant-loop-entry l = (p : Program) → All (KeepsWorth p) (map entry_of (take l.entry-index l.entry-items))
