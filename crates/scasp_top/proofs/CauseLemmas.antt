-- The causes of the statuses for faults.
use Rattle.std.proofs.Common.{◌≡◌, ◌⊎◌, inl, inr, ℕ, Option, None, Some, List, [], ◌∷◌, sym, subst}
use Rattle.scasp_io.specs.Counts.{Rose}
use Rattle.scasp_io.specs.Taken.{TakesWhole}
use Rattle.scasp_command_words.specs.declared.command.Command.{Command}
use Rattle.scasp_command_words.specs.declared.command.Command.TheVariants.{Run, Check, Trial, Extend, Recheck}
use Rattle.scasp_command_run.specs.declared.ends.RunEnd.{RunEnd}
use Rattle.scasp_command_run.specs.declared.ends.RunEnd.TheVariants as run
use Rattle.scasp_command_check.specs.declared.checking.Rechecked.{Rechecked}
use Rattle.scasp_command_check.specs.declared.checking.Rechecked.TheVariants as check
use Rattle.scasp_command_trial.specs.declared.first.Trial.{Trial as Trying}
use Rattle.scasp_command_trial.specs.declared.first.Trial.TheVariants as trial
use Rattle.scasp_command_extend.proofs.FaultLemmas.{extends-end, extends-without}
use Rattle.scasp_command_recheck.proofs.FaultLemmas.{rechecks-end, rechecks-without}
use Rattle.scasp_command_recheck.specs.Courses.{AnyFailed}
use Rattle.scasp_command_inputs.proofs.FaultLemmas.{EndsBy, IsQuiet, answers-end, answers-without, memory-quiet, program-ends, program-without, quiet, refusal-quiet, wider}
use Rattle.scasp_command_inputs.specs.Inputs.{Failed, Outside, without_faults}
use Rattle.scasp_command_inputs.specs.Reports.{Reports, whole, part}
use Rattle.scasp_command_inputs.specs.Texts.{program_refusal, refusal_status}
use Rattle.scasp_command_inputs.specs.declared.status.Status.{Status}
use Rattle.scasp_command_inputs.specs.declared.status.Status.TheVariants.{Done, NoAnswer, Usage, Read, Write, Spent, Overflow, Memory, Refused}
use Rattle.scasp_top.specs.Ends.{run_status, check_status, trial_status}
use Rattle.scasp_top.specs.Outputs.{program_file, HasReadFault, Outputs, nothing, usage, no_program, runs, no_answers, checks, tries, extends, rechecks, is_refused, is_tried}

usage-quiet : IsQuiet Usage
usage-quiet = (λ e. cc, λ e. cc)

run-quiet : (end : Option RunEnd) → IsQuiet (run_status end)
run-quiet None = memory-quiet
run-quiet (Some run.Done) = (λ (e : Done ≡ Read). cc, λ (e : Done ≡ Write). cc)
run-quiet (Some run.NoAnswer) = (λ (e : NoAnswer ≡ Read). cc, λ (e : NoAnswer ≡ Write). cc)
run-quiet (Some run.Spent) = (λ (e : Spent ≡ Read). cc, λ (e : Spent ≡ Write). cc)
run-quiet (Some run.Overflow) = (λ (e : Overflow ≡ Read). cc, λ (e : Overflow ≡ Write). cc)

check-quiet : (end : Option Rechecked) → IsQuiet (check_status end)
check-quiet None = memory-quiet
check-quiet (Some check.Accepted) = (λ (e : Done ≡ Read). cc, λ (e : Done ≡ Write). cc)
check-quiet (Some check.Refused) = (λ (e : Refused ≡ Read). cc, λ (e : Refused ≡ Write). cc)

trial-quiet : (t : Trying) → IsQuiet (trial_status t)
trial-quiet (trial.Right calls lines any) = (λ (e : Done ≡ Read). cc, λ (e : Done ≡ Write). cc)
trial-quiet trial.Ended = (λ (e : NoAnswer ≡ Read). cc, λ (e : NoAnswer ≡ Write). cc)
trial-quiet trial.Spent = (λ (e : Spent ≡ Read). cc, λ (e : Spent ≡ Write). cc)
trial-quiet trial.Overflow = (λ (e : Overflow ≡ Read). cc, λ (e : Overflow ≡ Write). cc)

-- the faults of the command that the words ask for
fault-of : (asked : Option Command) (o : Outside) (command : Command) → asked ≡ Some command → HasReadFault (Some command) o → HasReadFault asked o
fault-of asked o command is = subst (λ (a : Option Command). HasReadFault a o) (sym is)

-- a failed read of the program's file
program-fault : (asked : Option Command) (o : Outside) (command : Command) (file : List ℕ) → asked ≡ Some command → program_file command ≡ Some file
    → Failed o file → HasReadFault asked o
program-fault asked o command file is named rose = fault-of asked o command is (by command named)
  where
    of : (other : List ℕ) → Some other ≡ Some file → Failed o other
    of other e =
        let same : file ≡ other = cc in
        subst (λ (x : List ℕ). Failed o x) same rose

    by : (command : Command) → program_file command ≡ Some file → HasReadFault (Some command) o
    by (Run other budget answers format) e = of other e
    by (Check program answers) e = inl (of program e)
    by (Trial n) e = cc
    by (Extend program answers domain) e = cc
    by (Recheck answers files) e = cc

-- ---- the status of no fault, or that of a failed read

module _ (asked : Option Command) (o : Outside) (text : List ℕ) (status : Status) where
  ends : Outputs asked o text status → EndsBy (HasReadFault asked o) status
  ends (nothing says) = quiet (HasReadFault asked o) status Memory says.ending_is memory-quiet
  ends (usage is says) = quiet (HasReadFault asked o) status Usage says.ending_is usage-quiet
  ends (no_program command file is named refusal) =
      wider (Failed o file) (HasReadFault asked o) status (program-fault asked o command file is named) (program-ends o _ file text status refusal)
  ends (runs file budget answers format p names is program r) = quiet (HasReadFault asked o) status (run_status r.end) r.ending (run-quiet r.end)
  ends (no_answers program answers p names is read refusal) =
      wider (Failed o answers) (HasReadFault asked o) status (λ h. fault-of asked o (Check program answers) is (inr h)) (answers-end o names answers text status refusal)
  ends (checks program answers p names entries is read has c) = quiet (HasReadFault asked o) status (check_status c.end) c.ending (check-quiet c.end)
  ends (tries n is (is_refused r)) =
      quiet (HasReadFault asked o) status (refusal_status (program_refusal (r.fault).kind)) (r.says).ending_is (refusal-quiet (program_refusal (r.fault).kind))
  ends (tries n is (is_tried p names read t)) = quiet (HasReadFault asked o) status (trial_status t.trial) (t.says).ending_is (trial-quiet t.trial)
  ends (extends program answers domain is e) =
      wider _ (HasReadFault asked o) status (fault-of asked o (Extend program answers domain) is) (extends-end o program answers domain text status e)
  ends (rechecks answers files is r) =
      wider _ (HasReadFault asked o) status (fault-of asked o (Recheck answers files) is) (rechecks-end o answers files text status r)

  -- where no read fails, what is printed is so too where none can fail
  without : ¬ HasReadFault asked o → Outputs asked o text status → Outputs asked (without_faults o) text status
  without fine (nothing says) = nothing says
  without fine (usage is says) = usage is says
  without fine (no_program command file is named refusal) =
      no_program command file is named (program-without o _ file text status (λ h. fine (program-fault asked o command file is named h)) refusal)
  without fine (runs file budget answers format p names is program r) = runs file budget answers format p names is program r
  without fine (no_answers program answers p names is read refusal) =
      no_answers program answers p names is read
      (answers-without o names answers text status (λ h. fine (fault-of asked o (Check program answers) is (inr h))) refusal)
  without fine (checks program answers p names entries is read has c) = checks program answers p names entries is read has c
  without fine (tries n is t) = tries n is t
  without fine (extends program answers domain is e) =
      extends program answers domain is
      (extends-without o program answers domain text status (λ h. fine (fault-of asked o (Extend program answers domain) is h)) e)
  without fine (rechecks answers files is r) =
      rechecks answers files is
      (rechecks-without o answers files text status (λ h. fine (fault-of asked o (Recheck answers files) is h)) r)

-- ---- the clauses

pub read-cause : (asked : Option Command) (o : Outside) (before after : Option (List ℕ)) (faults faults' : ℕ) (status : Status)
    → Reports (Outputs asked o) before after faults faults' status → status ≡ Read → HasReadFault asked o
read-cause asked o before after faults faults' status (whole w) read = by (ends asked o w.text status w.may)
  where
    by : EndsBy (HasReadFault asked o) status → HasReadFault asked o
    by (inl h) = absurd (h.0 read)
    by (inr h) = h.1
read-cause asked o before after faults faults' status (part is rose w) read = cc

pub write-cause : (asked : Option Command) (o : Outside) (before after : Option (List ℕ)) (faults faults' : ℕ) (status : Status)
    → Reports (Outputs asked o) before after faults faults' status → status ≡ Write → Rose faults faults'
write-cause asked o before after faults faults' status (whole w) write = by (ends asked o w.text status w.may)
  where
    by : EndsBy (HasReadFault asked o) status → Rose faults faults'
    by (inl h) = absurd (h.1 write)
    by (inr h) = cc (h.0, write)
write-cause asked o before after faults faults' status (part is rose w) write = rose

pub completes : (asked : Option Command) (o : Outside) (before after : Option (List ℕ)) (faults faults' : ℕ) (status : Status)
    → Reports (Outputs asked o) before after faults faults' status → ¬ HasReadFault asked o → ¬ Rose faults faults'
    → (status ≡ Memory) ⊎ TakesWhole (λ text. Outputs asked (without_faults o) text status) before after
completes asked o before after faults faults' status (whole w) fine writes =
    inr (record { text = w.text; may = without asked o w.text status fine w.may; taken = w.taken })
completes asked o before after faults faults' status (part is rose w) fine writes = absurd (writes rose)

-- what the sink took of this command, where the words are it
pub command-reports : (asked : Option Command) (command : Command) (o : Outside) (before after : Option (List ℕ)) (faults faults' : ℕ) (status : Status)
    → asked ≡ Some command → Reports (Outputs (Some command) o) before after faults faults' status → Reports (Outputs asked o) before after faults faults' status
command-reports asked command o before after faults faults' status is reports =
    let P : Option Command → Type 0 = λ a. Reports (Outputs a o) before after faults faults' status in
    subst P (sym is) reports

-- and where nothing failed
pub command-completes : (asked : Option Command) (command : Command) (o : Outside) (before after : Option (List ℕ)) (faults faults' : ℕ) (status : Status)
    → asked ≡ Some command → Reports (Outputs (Some command) o) before after faults faults' status → ¬ HasReadFault asked o → ¬ Rose faults faults'
    → (status ≡ Memory) ⊎ TakesWhole (λ text. Outputs asked (without_faults o) text status) before after
command-completes asked command o before after faults faults' status is reports =
    completes asked o before after faults faults' status (command-reports asked command o before after faults faults' status is reports)

-- ---- files of which no read fails

module _ (o : Outside) (sure : (file : List ℕ) → ¬ Failed o file) where
  none-failed : (files : List (List ℕ)) → ¬ AnyFailed o files
  none-failed [] h = h
  none-failed (file ∷ files) (inl h) = sure file h
  none-failed (file ∷ files) (inr h) = none-failed files h

  pub sure-reads : (asked : Option Command) → ¬ HasReadFault asked o
  sure-reads None h = h
  sure-reads (Some (Run file budget answers format)) h = sure file h
  sure-reads (Some (Check program answers)) (inl h) = sure program h
  sure-reads (Some (Check program answers)) (inr h) = sure answers h
  sure-reads (Some (Trial n)) h = h
  sure-reads (Some (Extend program answers domain)) (inl h) = sure program h
  sure-reads (Some (Extend program answers domain)) (inr (inl h)) = sure answers h
  sure-reads (Some (Extend program answers domain)) (inr (inr h)) = sure domain h
  sure-reads (Some (Recheck answers files)) (inl h) = sure answers h
  sure-reads (Some (Recheck answers files)) (inr h) = none-failed files h
