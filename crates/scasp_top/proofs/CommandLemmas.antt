-- What the sink took of a command.
use Rattle.std.proofs.Common.{◌≡◌, ◌≤◌, ℕ, Option, Some, List, refl, subst}
use Rattle.scasp_syntax.specs.declared.program.Program.{Program}
use Rattle.scasp_answers.specs.Blocks.States.{Entry}
use Rattle.scasp_command_words.specs.declared.command.Command.{Command}
use Rattle.scasp_command_words.specs.declared.command.Command.TheVariants.{Run, Check, Trial, Extend, Recheck}
use Rattle.scasp_command_run.specs.declared.requests.Request.{Request}
use Rattle.scasp_command_words.specs.declared.format.Format.{Format}
use Rattle.scasp_command_inputs.specs.Halts.{IfLine, Tells}
use Rattle.scasp_command_inputs.specs.Inputs.{outside, HasAnswers, IsAnswers, IsNoAnswers, IsNoProgram, IsProgram, Outside}
use Rattle.scasp_top.specs.Outputs.{program_file, requested, Checks, Outputs, Runs, TriesNodes, nothing, no_program, runs, no_answers, checks, tries, extends, rechecks}
use Rattle.scasp_command_inputs.specs.Reports.{Reports}
use Rattle.scasp_command_inputs.specs.declared.halt.Halt.{Halt}
use Rattle.scasp_command_inputs.specs.declared.status.Status.{Status}
use Rattle.scasp_command_extend.specs.Commands.{Extends}
use Rattle.scasp_command_recheck.specs.Courses.{Rechecks}
use Rattle.scasp_command_inputs.proofs.InputLemmas.{no_answers-since}
use Rattle.scasp_command_inputs.proofs.ReportLemmas.{reports-widen, tells-widen}

-- the program's file is not read
pub stops-at-program : (command : Command) (file : List ℕ) (told : List ℕ → Option (List ℕ)) (first after : List ℕ → ℕ) (h : Halt)
    (taken taken' : Option (List ℕ)) (faults faults' : ℕ) (status : Status)
    → program_file command ≡ Some file → IfLine h (IsNoProgram (outside told first after) file) → Reports (Tells h) taken taken' faults faults' status
    → Reports (Outputs (Some command) (outside told first after)) taken taken' faults faults' status
stops-at-program command file told first after h taken taken' faults faults' status named line =
    let o = outside told first after in
    reports-widen (Tells h) (Outputs (Some command) o) taken taken' faults faults' status
    (tells-widen (IsNoProgram o file) (Outputs (Some command) o) h line (λ text s no. no_program command file refl named no) (λ text s says. nothing says))

-- the program is run
pub goes-on-run : (file : List ℕ) (budget answers : ℕ) (format : Format) (request : Request) → request ≡ requested budget answers format
    → (told : List ℕ → Option (List ℕ)) (first after : List ℕ → ℕ) (p : Program) (names : List (List ℕ))
    (taken taken' : Option (List ℕ)) (faults faults' : ℕ) (status : Status)
    → IsProgram (told file) p names → Reports (Runs p names request) taken taken' faults faults' status
    → Reports (Outputs (Some (Run file budget answers format)) (outside told first after)) taken taken' faults faults' status
goes-on-run file budget answers format request is told first after p names taken taken' faults faults' status program =
    reports-widen (Runs p names request) (Outputs (Some (Run file budget answers format)) (outside told first after)) taken taken' faults faults' status
    (λ text s r. runs file budget answers format p names refl program (subst (λ (asked : Request). Runs p names asked text s) is r))

-- the answer file is not read, behind a program
pub stops-at-answers : (program answers : List ℕ) (told told' : List ℕ → Option (List ℕ)) (first before after : List ℕ → ℕ) (p : Program) (names : List (List ℕ)) (h : Halt)
    (taken taken' : Option (List ℕ)) (faults faults' : ℕ) (status : Status)
    → told' answers ≡ told answers → first answers ≤ before answers → IsProgram (told program) p names
    → IfLine h (IsNoAnswers (outside told' before after) answers names) → Reports (Tells h) taken taken' faults faults' status
    → Reports (Outputs (Some (Check program answers)) (outside told first after)) taken taken' faults faults' status
stops-at-answers program answers told told' first before after p names h taken taken' faults faults' status stays counts is line =
    let o = outside told first after in
    reports-widen (Tells h) (Outputs (Some (Check program answers)) o) taken taken' faults faults' status
    (tells-widen (IsNoAnswers (outside told' before after) answers names) (Outputs (Some (Check program answers)) o) h line
    (λ text s no. no_answers program answers p names refl is (no_answers-since told told' first before after answers names text s stays counts no))
    (λ text s says. nothing says))

-- the blocks are checked
pub goes-on-check : (program answers : List ℕ) (told told' : List ℕ → Option (List ℕ)) (first after : List ℕ → ℕ) (p : Program) (names : List (List ℕ)) (entries : List Entry)
    (table : List (List ℕ)) (taken taken' : Option (List ℕ)) (faults faults' : ℕ) (status : Status)
    → told' answers ≡ told answers → IsProgram (told program) p names → HasAnswers (told' answers) names entries table
    → Reports (Checks p entries) taken taken' faults faults' status
    → Reports (Outputs (Some (Check program answers)) (outside told first after)) taken taken' faults faults' status
goes-on-check program answers told told' first after p names entries table taken taken' faults faults' status stays is has =
    reports-widen (Checks p entries) (Outputs (Some (Check program answers)) (outside told first after)) taken taken' faults faults' status
    (λ text s c. checks program answers p names entries refl is (subst (λ (t : Option (List ℕ)). IsAnswers t names entries) stays has.answers) c)

-- the trial program is tried
pub goes-on-trial : (n : ℕ) (o : Outside) (h : Halt) (taken taken' : Option (List ℕ)) (faults faults' : ℕ) (status : Status)
    → IfLine h (TriesNodes n) → Reports (Tells h) taken taken' faults faults' status → Reports (Outputs (Some (Trial n)) o) taken taken' faults faults' status
goes-on-trial n o h taken taken' faults faults' status line =
    reports-widen (Tells h) (Outputs (Some (Trial n)) o) taken taken' faults faults' status
    (tells-widen (TriesNodes n) (Outputs (Some (Trial n)) o) h line (λ text s t. tries n refl t) (λ text s says. nothing says))

-- the answers are extended
pub goes-on-extend : (program answers domain : List ℕ) (told : List ℕ → Option (List ℕ)) (first after : List ℕ → ℕ)
    (taken taken' : Option (List ℕ)) (faults faults' : ℕ) (status : Status)
    → Reports (Extends (outside told first after) program answers domain) taken taken' faults faults' status
    → Reports (Outputs (Some (Extend program answers domain)) (outside told first after)) taken taken' faults faults' status
goes-on-extend program answers domain told first after taken taken' faults faults' status =
    reports-widen (Extends (outside told first after) program answers domain) (Outputs (Some (Extend program answers domain)) (outside told first after))
    taken taken' faults faults' status (λ text s e. extends program answers domain refl e)

-- the answers are checked under one program after another
pub goes-on-recheck : (answers : List ℕ) (files : List (List ℕ)) (told : List ℕ → Option (List ℕ)) (first after : List ℕ → ℕ)
    (taken taken' : Option (List ℕ)) (faults faults' : ℕ) (status : Status)
    → Reports (Rechecks (outside told first after) answers files) taken taken' faults faults' status
    → Reports (Outputs (Some (Recheck answers files)) (outside told first after)) taken taken' faults faults' status
goes-on-recheck answers files told first after taken taken' faults faults' status =
    reports-widen (Rechecks (outside told first after) answers files) (Outputs (Some (Recheck answers files)) (outside told first after)) taken taken' faults faults' status
    (λ text s r. rechecks answers files refl r)
