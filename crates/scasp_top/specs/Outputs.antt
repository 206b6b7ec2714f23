-- What a command prints, and the status with which it ends.
use Rattle.std.specs.Prelude.{◌≡◌, ◌==◌, ◌⊎◌, ℕ, if◌then◌else◌, Option, None, Some, List, [], length, All}
use Rattle.scasp_syntax.specs.declared.program.Program.{Program}
use Rattle.scasp_answers.specs.Blocks.States.{Entry}
use Rattle.scasp_command_inputs.specs.Inputs.{Failed, IsAnswers, IsNoAnswers, IsNoProgram, IsProgram, Outside, RefusesProgram, Says}
use Rattle.scasp_command_inputs.specs.declared.status.Status.{Status}
use Rattle.scasp_command_inputs.specs.declared.status.Status.TheVariants.{Usage, Memory}
use Rattle.scasp_command_words.specs.declared.command.Command.{Command}
use Rattle.scasp_command_words.specs.declared.command.Command.TheVariants.{Run, Check, Trial, Extend, Recheck}
use Rattle.scasp_command_words.specs.declared.format.Format.{Format}
use Rattle.scasp_gen.specs.Trial.{trial_text}
use Rattle.scasp_command_run.specs.Jobs.{job}
use Rattle.scasp_command_run.specs.Runs.{IsRun}
use Rattle.scasp_command_run.specs.declared.ends.RunEnd.{RunEnd}
use Rattle.scasp_command_run.specs.declared.requests.Request.{Request}
use Rattle.scasp_command_check.specs.Outputs.{KeepsWorth}
use Rattle.scasp_command_check.specs.declared.checking.Rechecked.{Rechecked}
use Rattle.scasp_command_extend.specs.Commands.{Extends}
use Rattle.scasp_command_extend.specs.Commands as extending
use Rattle.scasp_command_recheck.specs.Courses.{AnyFailed, Rechecks}
use Rattle.scasp_command_trial.specs.Texts.{trial_line}
use Rattle.scasp_command_trial.specs.Trials.{IsTrial}
use Rattle.scasp_command_trial.specs.declared.first.Trial.{Trial as Trying}
use Rattle.scasp_top.specs.Ends.{IsCheck, run_status, check_status, trial_status}
use Rattle.scasp_top.specs.Texts.{usage_line}

-- how many answers are asked for: 0 asks for all
abbrev pub asked_answers : ℕ → Option ℕ
asked_answers n = if n == 0 then None else Some n

-- what is asked of a run
abbrev pub requested : ℕ → ℕ → Format → Request
requested budget answers format = record { budget = budget; answers = asked_answers answers; format = format }

-- the run of the program, whole or cut off
pub record Runs (p : Program) (names : List (List ℕ)) (request : Request) (text : List ℕ) (status : Status) : Type 0 where
  pub end : Option RunEnd
  pub run : IsRun (job p names request) text end
  pub ending : status ≡ run_status end

-- the check of the blocks of a file, whole or cut off; what their lines say holds
pub record Checks (p : Program) (entries : List Entry) (text : List ℕ) (status : Status) : Type 0 where
  pub end : Option Rechecked
  pub check : IsCheck p entries text end
  pub ending : status ≡ check_status end
  pub says : All (KeepsWorth p) entries

-- how many calls a trial may make
abbrev pub trial_budget : ℕ
trial_budget = 50000

-- the line of the trial of this program, with this table of names
pub record Tries (n : ℕ) (p : Program) (names : List (List ℕ)) (text : List ℕ) (status : Status) : Type 0 where
  pub trial : Trying
  pub is : IsTrial p trial_budget (length names) trial
  pub says : Says (trial_line n trial) (trial_status trial) text status

-- The trial program of so many nodes is read as the program of a file is, and tried. That it is read, and not refused, is not claimed.
pub data TriesNodes (n : ℕ) (text : List ℕ) (status : Status) : Type 0 where
  is_refused : RefusesProgram (trial_text n) text status → TriesNodes n text status
  is_tried : (p : Program) (names : List (List ℕ)) → IsProgram (Some (trial_text n)) p names → Tries n p names text status → TriesNodes n text status

-- the file of the program of a run or a check
abbrev pub program_file : Command → Option (List ℕ)
program_file (Run file budget answers format) = Some file
program_file (Check program answers) = Some program
program_file (Trial n) = None
program_file (Extend program answers domain) = None
program_file (Recheck answers files) = None

-- This is printed for what the words ask for, and so the command ends. Want of memory may come before anything is printed, and cuts a run, a check, an
-- extension or a recheck off.
pub data Outputs (asked : Option Command) (o : Outside) (text : List ℕ) (status : Status) : Type 0 where
  nothing : Says [] Memory text status → Outputs asked o text status
  usage : asked ≡ None → Says usage_line Usage text status → Outputs asked o text status
  no_program : (command : Command) (file : List ℕ) → asked ≡ Some command → program_file command ≡ Some file → IsNoProgram o file text status
      → Outputs asked o text status
  runs : (file : List ℕ) (budget answers : ℕ) (format : Format) (p : Program) (names : List (List ℕ)) → asked ≡ Some (Run file budget answers format)
      → IsProgram (o.told file) p names → Runs p names (requested budget answers format) text status → Outputs asked o text status
  no_answers : (program answers : List ℕ) (p : Program) (names : List (List ℕ)) → asked ≡ Some (Check program answers)
      → IsProgram (o.told program) p names → IsNoAnswers o answers names text status → Outputs asked o text status
  checks : (program answers : List ℕ) (p : Program) (names : List (List ℕ)) (entries : List Entry) → asked ≡ Some (Check program answers)
      → IsProgram (o.told program) p names → IsAnswers (o.told answers) names entries → Checks p entries text status → Outputs asked o text status
  tries : (n : ℕ) → asked ≡ Some (Trial n) → TriesNodes n text status → Outputs asked o text status
  extends : (program answers domain : List ℕ) → asked ≡ Some (Extend program answers domain) → Extends o program answers domain text status
      → Outputs asked o text status
  rechecks : (answers : List ℕ) (files : List (List ℕ)) → asked ≡ Some (Recheck answers files) → Rechecks o answers files text status
      → Outputs asked o text status

-- ---- faults

-- a read of a file that the words name failed
abbrev pub HasReadFault : Option Command → Outside → Type 0
HasReadFault None o = ⊥
HasReadFault (Some (Run file budget answers format)) o = Failed o file
HasReadFault (Some (Check program answers)) o = Failed o program ⊎ Failed o answers
HasReadFault (Some (Trial n)) o = ⊥
HasReadFault (Some (Extend program answers domain)) o = extending.AnyFailed o program answers domain
HasReadFault (Some (Recheck answers files)) o = Failed o answers ⊎ AnyFailed o files
