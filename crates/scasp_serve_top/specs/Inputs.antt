-- The file of commands: what is read of it, and what is printed where it is not read.
use Rattle.std.specs.Prelude.{◌≡◌, ◌≤◌, ◌<◌, ℕ, Option, List, length, codes, Ok, Err}
use Rattle.scasp_command_inputs.specs.Inputs.{AreBytes, Failed, Outside, Says}
use Rattle.scasp_command_inputs.specs.Texts.{off_grammar, past_limit, read_line, refusal_line}
use Rattle.scasp_command_inputs.specs.declared.refusals.Input.TheVariants as input
use Rattle.scasp_command_inputs.specs.declared.status.Status.{Status}
use Rattle.scasp_command_inputs.specs.declared.status.Status.TheVariants.{Limit, Read, Text}
use Rattle.scasp_serve_top.specs.declared.inputs.TheConstants.{BYTE_LIMIT}
use Rattle.scasp_serve_words.specs.Reading.{commands_in}
use Rattle.scasp_serve_words.specs.declared.command.Command.{Command}

-- the file, of which these bytes are told, spells these commands
pub record AreCommands (told : Option (List ℕ)) (commands : List Command) : Type 0 where
  pub bytes : List ℕ
  pub are : AreBytes told bytes
  pub within : length bytes ≤ BYTE_LIMIT
  pub read : commands_in bytes ≡ Ok commands

-- the bytes spell none: the first line is told that is no command, or lacks its end
pub record RefusesLine (bytes text : List ℕ) (status : Status) : Type 0 where
  pub at : ℕ
  pub is : commands_in bytes ≡ Err at
  pub says : Says (refusal_line input.Commands at (off_grammar (codes "Line"))) Text text status

-- the file could not be read, is too long, or spells no commands
pub data HasNoCommands (o : Outside) (file text : List ℕ) (status : Status) : Type 0 where
  unread : Failed o file → Says (read_line input.Commands) Read text status → HasNoCommands o file text status
  too_long : (bytes : List ℕ) → AreBytes (o.told file) bytes → BYTE_LIMIT < length bytes
      → Says (refusal_line input.Commands BYTE_LIMIT (past_limit (codes "bytes"))) Limit text status → HasNoCommands o file text status
  refused : (bytes : List ℕ) → AreBytes (o.told file) bytes → length bytes ≤ BYTE_LIMIT → RefusesLine bytes text status
      → HasNoCommands o file text status
