-- The exit code of each status.
use Rattle.std.specs.Prelude.{ℕ}
use Rattle.scasp_command_inputs.specs.declared.status.Status.{Status}
use Rattle.scasp_command_inputs.specs.declared.status.Status.TheVariants.{Done, NoAnswer, Usage, Text, Read, Write, Spent, Overflow, Memory, Refused, Limit, NoModel}

-- the exit code of a status
abbrev pub code_of : Status → ℕ
code_of Done = 0
code_of NoAnswer = 1
code_of Usage = 2
code_of Text = 3
code_of Read = 4
code_of Write = 5
code_of Spent = 6
code_of Overflow = 7
code_of Memory = 8
code_of Refused = 9
code_of Limit = 11
code_of NoModel = 12
