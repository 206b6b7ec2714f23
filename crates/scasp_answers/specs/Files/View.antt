-- What the code answers of a file.
use Rattle.std.specs.Prelude.{◌≡◌, List, map, Result, Ok, Err}
use Rattle.scasp_answers.specs.Blocks.Files.{Reading}
use Rattle.scasp_answers.specs.declared.states.state.Entry.{Entry}
use Rattle.scasp_answers.specs.declared.files.error.AnswerErr.{AnswerErr}
use Rattle.scasp_answers.specs.declared.files.error.AnswerErr.TheVariants as error
pub use Rattle.scasp_answers.specs.States.View.{entry_of}

-- What the code answers is what is read of a file. Want of memory is free.
abbrev pub Told : Reading → Result (List Entry) AnswerErr → Type 0
Told reading (Ok entries) = reading ≡ Ok (map entry_of entries)
Told reading (Err (error.At fault)) = reading ≡ Err fault
Told reading (Err error.Memory) = Unit {0}
