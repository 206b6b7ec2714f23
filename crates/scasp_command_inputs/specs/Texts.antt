-- The lines that are printed where no program is run and no answers are checked.
use Rattle.std.specs.Prelude.{ℕ, Bool, true, false, if◌then◌else◌, List, ◌++◌, codes, decimal}
use Rattle.scasp_reader_terms.specs.declared.fault.Count.{Count}
use Rattle.scasp_reader_terms.specs.declared.fault.Count.TheVariants as count
use Rattle.scasp_reader_terms.specs.declared.fault.Kind.{Kind}
use Rattle.scasp_reader_terms.specs.declared.fault.Kind.TheVariants as kind
use Rattle.scasp_answers.specs.declared.blocks.fault.AnswerKind.{AnswerKind}
use Rattle.scasp_answers.specs.declared.blocks.fault.AnswerKind.TheVariants as answer
use Rattle.scasp_command_inputs.specs.declared.refusals.Input.{Input}
use Rattle.scasp_command_inputs.specs.declared.refusals.Input.TheVariants as input
use Rattle.scasp_command_inputs.specs.declared.status.Status.{Status}
use Rattle.scasp_command_inputs.specs.declared.status.Status.TheVariants as status

-- the word of a file
abbrev pub input_word : Input → List ℕ
input_word input.Program = codes "program"
input_word input.Answers = codes "answers"
input_word input.Commands = codes "commands"
input_word input.Domain = codes "domain"

abbrev pub read_line : Input → List ℕ
read_line i = codes "read " ++ input_word i ++ codes "\n"

-- the word of what has a limit
abbrev pub count_word : Count → List ℕ
count_word count.Bytes = codes "bytes"
count_word count.Clauses = codes "clauses"
count_word count.Items = codes "items"
count_word count.Variables = codes "variables"
count_word count.Arity = codes "arity"
count_word count.Depth = codes "depth"

-- ---- a text that is refused

-- what is told of it: whether a count passed its limit, else it is outside the grammar, and the word of the count or of what is wrong
pub record Refusal : Type 0 where
  pub limit : Bool
  pub word : List ℕ

abbrev pub off_grammar : List ℕ → Refusal
off_grammar word = record { limit = false; word = word }

abbrev pub past_limit : List ℕ → Refusal
past_limit word = record { limit = true; word = word }

-- a program's text
abbrev pub program_refusal : Kind → Refusal
program_refusal kind.BadByte = off_grammar (codes "BadByte")
program_refusal kind.Unclosed = off_grammar (codes "Unclosed")
program_refusal kind.Expected = off_grammar (codes "Expected")
program_refusal kind.Unsupported = off_grammar (codes "Unsupported")
program_refusal kind.NotLinear = off_grammar (codes "NotLinear")
program_refusal kind.NumberTooLarge = off_grammar (codes "NumberTooLarge")
program_refusal (kind.Limit c) = past_limit (count_word c)

-- an answer file
abbrev pub answers_refusal : AnswerKind → Refusal
answers_refusal answer.Line = off_grammar (codes "Line")
answers_refusal answer.Order = off_grammar (codes "Order")
answers_refusal answer.Cut = off_grammar (codes "Cut")
answers_refusal answer.NumberTooLarge = off_grammar (codes "NumberTooLarge")
answers_refusal answer.Limit = past_limit (codes "bytes")

abbrev pub refusal_status : Refusal → Status
refusal_status r = if r.limit then status.Limit else status.Text

abbrev pub first_word : Bool → List ℕ
first_word limit = if limit then codes "limit" else codes "text"

-- `text FILE AT KIND` or `limit FILE AT COUNT`
abbrev pub refusal_line : Input → ℕ → Refusal → List ℕ
refusal_line i at r = first_word r.limit ++ codes " " ++ input_word i ++ codes " " ++ decimal at ++ codes " " ++ r.word ++ codes "\n"
