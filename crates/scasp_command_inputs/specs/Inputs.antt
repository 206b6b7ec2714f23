-- The files of a command: what is read of them, and what is printed where they are not read.
use Rattle.std.specs.Prelude.{◌≡◌, ℕ, Option, IfSome, List, Ok, Err}
use Rattle.scasp_name.specs.Texts.{list_names}
use Rattle.scasp_syntax.specs.declared.program.Program.{Program}
use Rattle.scasp_reader_terms.specs.declared.fault.Fault.{Fault}
use Rattle.scasp_reader.specs.Programs.Programs.{program_in, reading_of}
use Rattle.scasp_answers.specs.Blocks.Files.{Reading, file_in}
use Rattle.scasp_answers.specs.Blocks.States.{Entry}
use Rattle.scasp_answers.specs.declared.blocks.fault.AnswerFault.{AnswerFault}
use Rattle.scasp_answers.specs.Files.Texts.{with_names}
use Rattle.scasp_io.specs.Counts.{Rose}
use Rattle.scasp_abduce.specs.Translation.{IsTranslation}
use Rattle.scasp_command_inputs.specs.Texts.{read_line, refusal_line, refusal_status, program_refusal, answers_refusal}
use Rattle.scasp_command_inputs.specs.declared.refusals.Input.TheVariants as input
use Rattle.scasp_command_inputs.specs.declared.status.Status.{Status}
use Rattle.scasp_command_inputs.specs.declared.status.Status.TheVariants.{Read}

-- ---- the outside

-- the bytes of each file, where they are told, and the count of faults of reading it before and after the call
pub record Outside : Type 0 where
  pub told : List ℕ → Option (List ℕ)
  pub before : List ℕ → ℕ
  pub after : List ℕ → ℕ

abbrev pub outside : (List ℕ → Option (List ℕ)) → (List ℕ → ℕ) → (List ℕ → ℕ) → Outside
outside told before after = record { told = told; before = before; after = after }

-- the same outside, where no read fails
abbrev pub without_faults : Outside → Outside
without_faults o = outside o.told (λ _. 0) (λ _. 0)

-- a read of the file failed
abbrev pub Failed : Outside → List ℕ → Type 0
Failed o file = Rose (o.before file) (o.after file)

-- these are the bytes of a file, if those are told
abbrev pub AreBytes : Option (List ℕ) → List ℕ → Type 0
AreBytes told bytes = IfSome told (λ all. bytes ≡ all)

-- ---- files that are read

-- the file, of which these bytes are told, spells this program behind a table of names, and the table is this one then
pub record IsWrittenBehind (before : List (List ℕ)) (told : Option (List ℕ)) (p : Program) (names : List (List ℕ)) : Type 0 where
  pub bytes : List ℕ
  pub are : AreBytes told bytes
  pub read : program_in before bytes ≡ Ok (reading_of (p, names))

-- the same of the first program of a command
abbrev pub IsWritten : Option (List ℕ) → Program → List (List ℕ) → Type 0
IsWritten told p names = IsWrittenBehind list_names told p names

-- the file spells a program of which this one is the translation, without abducible predicates, and the table is this one then
pub record IsProgramBehind (before : List (List ℕ)) (told : Option (List ℕ)) (p : Program) (names : List (List ℕ)) : Type 0 where
  pub written : Program
  pub table : List (List ℕ)
  pub is : IsWrittenBehind before told written table
  pub translated : IsTranslation table written p names

-- the same of the first program of a command
abbrev pub IsProgram : Option (List ℕ) → Program → List (List ℕ) → Type 0
IsProgram told p names = IsProgramBehind list_names told p names

-- what is read of an answer file behind a program with these names
abbrev pub answers_in : List (List ℕ) → List ℕ → Reading
answers_in names bytes = file_in (with_names names bytes) bytes

-- the file has these entries
pub record IsAnswers (told : Option (List ℕ)) (names : List (List ℕ)) (entries : List Entry) : Type 0 where
  pub bytes : List ℕ
  pub are : AreBytes told bytes
  pub read : answers_in names bytes ≡ Ok entries

-- the same, and the table of names is this one then
pub record HasAnswers (told : Option (List ℕ)) (names : List (List ℕ)) (entries : List Entry) (table : List (List ℕ)) : Type 0 where
  pub answers : IsAnswers told names entries
  pub table_is : table ≡ with_names names answers.bytes

-- ---- what is printed

-- this line alone is printed, and so the command ends
pub record Says (line : List ℕ) (ending : Status) (text : List ℕ) (status : Status) : Type 0 where
  pub line_is : text ≡ line
  pub ending_is : status ≡ ending

-- the bytes spell no program behind a table of names: the first fault is told
pub record RefusesProgramBehind (before : List (List ℕ)) (bytes text : List ℕ) (status : Status) : Type 0 where
  pub fault : Fault
  pub is : program_in before bytes ≡ Err fault
  pub says : Says (refusal_line input.Program fault.at (program_refusal fault.kind)) (refusal_status (program_refusal fault.kind)) text status

-- the same of the first program of a command
abbrev pub RefusesProgram : List ℕ → List ℕ → Status → Type 0
RefusesProgram bytes text status = RefusesProgramBehind list_names bytes text status

-- the bytes are no answer file
pub record RefusesAnswers (names : List (List ℕ)) (bytes text : List ℕ) (status : Status) : Type 0 where
  pub fault : AnswerFault
  pub is : answers_in names bytes ≡ Err fault
  pub says : Says (refusal_line input.Answers fault.at (answers_refusal fault.kind)) (refusal_status (answers_refusal fault.kind)) text status

-- the file could not be read, or it spells no program behind a table of names
pub data IsNoProgramBehind (before : List (List ℕ)) (o : Outside) (file text : List ℕ) (status : Status) : Type 0 where
  unread : Failed o file → Says (read_line input.Program) Read text status → IsNoProgramBehind before o file text status
  refused : (bytes : List ℕ) → AreBytes (o.told file) bytes → RefusesProgramBehind before bytes text status → IsNoProgramBehind before o file text status

-- the same of the first program of a command
abbrev pub IsNoProgram : Outside → List ℕ → List ℕ → Status → Type 0
IsNoProgram o file text status = IsNoProgramBehind list_names o file text status

-- the same of an answer file
pub data IsNoAnswers (o : Outside) (file : List ℕ) (names : List (List ℕ)) (text : List ℕ) (status : Status) : Type 0 where
  unread_answers : Failed o file → Says (read_line input.Answers) Read text status → IsNoAnswers o file names text status
  refused_answers : (bytes : List ℕ) → AreBytes (o.told file) bytes → RefusesAnswers names bytes text status → IsNoAnswers o file names text status
