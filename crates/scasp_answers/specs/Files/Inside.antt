-- Lines of bytes, and what reading a line makes of a state.
use Rattle.std.specs.Prelude.{◌≡◌, ℕ, List, [], ◌∷◌, ◌+◌, take, drop, Option, None, Some, Result, Ok, Err}
use Rattle.scasp_list.specs.declared.memory.Memory.{Memory}
use Rattle.scasp_answers.specs.Blocks.Files.{Split, split_lines}
use Rattle.scasp_answers.specs.Blocks.Files as spec
use Rattle.scasp_answers.specs.declared.blocks.fault.AnswerKind.{AnswerKind}
use Rattle.scasp_answers.specs.States.View.{state_of}
use Rattle.scasp_answers.specs.declared.files.versioned.Versioned.{Versioned}
use Rattle.scasp_answers.specs.declared.files.error.AnswerErr.{AnswerErr}
use Rattle.scasp_answers.specs.declared.files.error.AnswerErr.TheVariants as error

-- ---- lines of bytes

abbrev pub with_line : List ℕ → Split → Split
with_line line s = record { lines = line ∷ s.lines; rest = s.rest }

-- the first line, without its line feed, is so long; or no line ends
abbrev pub Splits : List ℕ → Option ℕ → Type 0
Splits bytes None = split_lines bytes ≡ record { lines = []; rest = bytes }
Splits bytes (Some len) = split_lines bytes ≡ with_line (take len bytes) (split_lines (drop (len + 1) bytes))

-- what the code has read, as values
abbrev pub versioned_of : Versioned → spec.Versioned
versioned_of v = record { state = state_of v.state; version = v.version; told = v.told; room = v.room }

-- The code has the state behind the line, or tells what is wrong with it. Want of memory is free.
abbrev pub Judges : {S : Type 0} → Result S AnswerKind → Result (Option AnswerKind) Memory → S → Type 0
Judges judged (Ok None) s = judged ≡ Ok s
Judges judged (Ok (Some k)) s = judged ≡ Err k
Judges judged (Err m) s = Unit {0}

-- The same with the fault's place. Want of memory is free.
abbrev pub Tells : {S B : Type 0} → (AnswerKind → ℕ) → Result S AnswerKind → Result B AnswerErr → S → Type 0
Tells place judged (Ok u) s = judged ≡ Ok s
Tells place judged (Err (error.At fault)) s = (judged ≡ Err fault.kind) × (fault.at ≡ place fault.kind)
Tells place judged (Err error.Memory) s = Unit {0}
