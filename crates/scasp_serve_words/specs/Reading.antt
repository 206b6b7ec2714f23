-- What is read from the bytes of a file of commands: a command a line, or the place of the first line that is none.
use Rattle.std.specs.Prelude.{◌≡◌, ⊤, ℕ, ◌+◌, Option, None, Some, List, [], ◌∷◌, length, Result, Ok, Err}
use Rattle.scasp_answers.specs.Blocks.Files.{split_lines}
use Rattle.scasp_serve_words.specs.Commands.{command_in}
use Rattle.scasp_serve_words.specs.declared.command.Command.{Command}
use Rattle.scasp_serve_words.specs.declared.error.CommandsErr.{CommandsErr}
use Rattle.scasp_serve_words.specs.declared.error.CommandsErr.TheVariants as error

-- the commands, or where the first line begins that is none or lacks its end
abbrev pub Reading : Type 0
Reading = Result (List Command) ℕ

-- the command of the line at this place, before what is read behind it
abbrev pub begins_with : Option Command → ℕ → Reading → Reading
begins_with None at later = Err at
begins_with (Some command) at (Ok commands) = Ok (command ∷ commands)
begins_with (Some command) at (Err place) = Err place

-- the commands of these lines, of which the first begins at this place; `rest` is what stands behind the last line feed
abbrev pub commands_at : ℕ → List (List ℕ) → List ℕ → Reading
commands_at at [] [] = Ok []
commands_at at [] (b ∷ bs) = Err at
commands_at at (line ∷ lines) rest = begins_with (command_in line) at (commands_at (at + length line + 1) lines rest)

abbrev pub commands_in : List ℕ → Reading
commands_in bytes = commands_at 0 (split_lines bytes).lines (split_lines bytes).rest

-- the line that the code refuses is the first; want of memory is free
abbrev pub Refuses : Reading → CommandsErr → Type 0
Refuses reading (error.Line at) = reading ≡ Err at
Refuses reading error.Memory = ⊤
