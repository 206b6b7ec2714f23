use Rattle.std.proofs.Common.{map, take}
use Rattle.std.specs.Prelude.{All}
use Rattle.scasp_answers.specs.Files.View.{entry_of}
use Rattle.scasp_syntax.specs.Tm.{items}
use Rattle.scasp_syntax.specs.declared.program.Program.{Program}
use Rattle.scasp_command_extend.specs.Outputs.{KeepsOutcome}
use Rattle.scasp_command_extend.proofs.laws.see_outcomes.Given as goal

abbrev pub invariant-loop-entry : goal.invariant-loop-entry
invariant-loop-entry l = (p : Program) → All (KeepsOutcome p (items l.domain)) (map entry_of (take l.entry-index l.entry-items))
