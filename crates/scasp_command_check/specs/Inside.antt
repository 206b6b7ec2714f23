-- What private functions alone speak of.
use Rattle.std.specs.Prelude.{◌≡◌, ℕ, ◌+◌, if◌then◌else◌, List, length, Option, Result, Ok, Err}
use Rattle.std.specs.List.{concat}
use Rattle.scasp_syntax.specs.declared.program.Program.{Program}
use Rattle.scasp_io.specs.Bytes.{behind, TakesPrefix}
use Rattle.scasp_io.specs.Counts.{Rose}
use Rattle.scasp_io.specs.declared.errors.OutputErr.{OutputErr}
use Rattle.scasp_io.specs.declared.errors.OutputErr.TheVariants as error
use Rattle.scasp_answers.specs.Blocks.States.{Entry}
use Rattle.scasp_command_check.specs.Outputs.{TakesLines}
use Rattle.scasp_command_check.specs.Texts.{block_lines, entry_lines, passes, rechecked_of}
use Rattle.scasp_command_check.specs.declared.checking.Rechecked.TheVariants.{Refused}
use Rattle.scasp_command_check.specs.declared.checking.Tally.{Tally}

-- what has been found of these entries
abbrev pub tally_of : Program → List Entry → Tally
tally_of p entries = record { blocks = length (block_lines p entries); rechecked = rechecked_of p entries }

-- and of one more
abbrev pub with_entry : Program → Tally → Entry → Tally
with_entry p t e = record { blocks = t.blocks + length (entry_lines p e); rechecked = if passes p e then t.rechecked else Refused }

-- A sink took all lines; or the first of them, since memory was wanting; or a first part of their bytes, since a write failed.
abbrev pub Took : {A : Type 0} → Result A OutputErr → Option (List ℕ) → Option (List ℕ) → List (List ℕ) → Type 0
Took (Ok x) old new lines = new ≡ behind old (concat lines)
Took (Err error.Memory) old new lines = TakesLines old new lines
Took (Err error.Write) old new lines = TakesPrefix old new (concat lines)

-- the same of bytes that are written at once: where memory was wanting, nothing was taken
abbrev pub TookBytes : {A : Type 0} → Result A OutputErr → Option (List ℕ) → Option (List ℕ) → List ℕ → Type 0
TookBytes (Ok x) old new bytes = new ≡ behind old bytes
TookBytes (Err error.Memory) old new bytes = new ≡ old
TookBytes (Err error.Write) old new bytes = TakesPrefix old new bytes

-- a write that failed was counted
abbrev pub Counted : {A : Type 0} → Result A OutputErr → ℕ → ℕ → Type 0
Counted (Ok x) old new = Unit {0}
Counted (Err error.Memory) old new = Unit {0}
Counted (Err error.Write) old new = Rose old new
