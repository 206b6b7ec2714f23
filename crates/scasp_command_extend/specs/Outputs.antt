-- What the text of a block says.
use Rattle.std.specs.Prelude.{⊤, List}
use Rattle.scasp_answers.specs.Blocks.States.{Entry, block, ended_entry, rejected_entry}
use Rattle.scasp_syntax.specs.Tm.{Tm}
use Rattle.scasp_syntax.specs.declared.program.Program.{Program}
use Rattle.scasp_command_extend.specs.Outcomes.{Says, outcome_of}

-- what the text of a block says holds of its certificate
abbrev pub KeepsOutcome : Program → List Tm → Entry → Type 0
KeepsOutcome p d (block n c) = Says (outcome_of p d c) p d c
KeepsOutcome p d (ended_entry e q) = ⊤
KeepsOutcome p d (rejected_entry q n at why) = ⊤
