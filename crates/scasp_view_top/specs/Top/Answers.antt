-- The blocks of an answer file: what is shown, and what is printed where nothing is.
use Rattle.std.specs.Prelude.{ℕ, Bool, if◌then◌else◌, List, All}
use Rattle.scasp_answers.specs.Blocks.States.{Entry}
use Rattle.scasp_command_check.specs.Outputs.{KeepsWorth}
use Rattle.scasp_command_inputs.specs.Inputs.{HasAnswers, IsNoAnswers, IsNoProgram, IsProgram, Outside, Says}
use Rattle.scasp_command_inputs.specs.declared.status.Status.{Status}
use Rattle.scasp_command_inputs.specs.declared.status.Status.TheVariants.{Done, Refused}
use Rattle.scasp_syntax.specs.declared.program.Program.{Program}
use Rattle.scasp_view_top.specs.Answers.{accepted_all, answers_text}
use Rattle.scasp_view_top.specs.declared.words.options.Options.{Options}

-- each block that is asked for is accepted, or one is not
abbrev pub status_of : Bool → Status
status_of accepted = if accepted then Done else Refused

-- the blocks of these entries that are asked for; what their verdicts say holds
pub record ShowsBlocks (p : Program) (names : List (List ℕ)) (options : Options) (entries : List Entry) (text : List ℕ) (status : Status) : Type 0 where
  pub shows : Says (answers_text p names options entries) (status_of (accepted_all p names options entries)) text status
  pub holds : All (KeepsWorth p) entries

-- The blocks of a file are shown under the program of another, unless one of the two could not be read, or spells none.
pub data TellsAnswers (o : Outside) (program answers : List ℕ) (options : Options) (text : List ℕ) (status : Status) : Type 0 where
  under_none : IsNoProgram o program text status → TellsAnswers o program answers options text status
  no_answers : (p : Program) (names : List (List ℕ)) → IsProgram (o.told program) p names → IsNoAnswers o answers names text status
      → TellsAnswers o program answers options text status
  blocks : (p : Program) (names : List (List ℕ)) (entries : List Entry) (table : List (List ℕ)) → IsProgram (o.told program) p names
      → HasAnswers (o.told answers) names entries table → ShowsBlocks p table options entries text status
      → TellsAnswers o program answers options text status
