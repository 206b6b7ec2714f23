-- What a sink takes of lines, and what the lines say.
use Rattle.std.specs.Prelude.{◌≡◌, ℕ, ◌≤◌, ⊤, List, length, take, Option}
use Rattle.std.specs.List.{concat}
use Rattle.scasp_syntax.specs.declared.program.Program.{Program}
use Rattle.scasp_io.specs.Bytes.{behind}
use Rattle.scasp_answers.specs.Blocks.States.{Entry, block, ended_entry, rejected_entry}
use Rattle.scasp_command_check.specs.Worths.{worth_of, Says}

-- a sink took the first of the lines, each whole, and nothing else
pub record TakesLines (old new : Option (List ℕ)) (lines : List (List ℕ)) : Type 0 where
  pub count : ℕ
  pub within : count ≤ length lines
  pub taken : new ≡ behind old (concat (take count lines))

-- what the line of a block says holds of its certificate
abbrev pub KeepsWorth : Program → Entry → Type 0
KeepsWorth p (block n c) = Says (worth_of p c) p c
KeepsWorth p (ended_entry e q) = ⊤
KeepsWorth p (rejected_entry q n at why) = ⊤
