-- How runs, checks and trials end, and the status that belongs to it.
use Rattle.std.specs.Prelude.{◌≡◌, ℕ, Option, None, Some, List, take}
use Rattle.std.specs.List.{concat}
use Rattle.scasp_syntax.specs.declared.program.Program.{Program}
use Rattle.scasp_answers.specs.Blocks.States.{Entry}
use Rattle.scasp_command_run.specs.declared.ends.RunEnd.{RunEnd}
use Rattle.scasp_command_run.specs.declared.ends.RunEnd.TheVariants as run
use Rattle.scasp_command_check.specs.Texts.{block_lines, recheck_text, rechecked_of}
use Rattle.scasp_command_check.specs.declared.checking.Rechecked.{Rechecked}
use Rattle.scasp_command_check.specs.declared.checking.Rechecked.TheVariants as check
use Rattle.scasp_command_trial.specs.declared.first.Trial.{Trial}
use Rattle.scasp_command_trial.specs.declared.first.Trial.TheVariants as trial
use Rattle.scasp_command_inputs.specs.declared.status.Status.{Status}
use Rattle.scasp_command_inputs.specs.declared.status.Status.TheVariants as status

-- of a run that ended so, or was cut off
abbrev pub run_status : Option RunEnd → Status
run_status None = status.Memory
run_status (Some run.Done) = status.Done
run_status (Some run.NoAnswer) = status.NoAnswer
run_status (Some run.Spent) = status.Spent
run_status (Some run.Overflow) = status.Overflow

-- The text of a check that ended so. Of one that was cut off the first lines were printed, each whole.
abbrev pub IsCheck : Program → List Entry → List ℕ → Option Rechecked → Type 0
IsCheck p entries text None = (count : ℕ) × (text ≡ concat (take count (block_lines p entries)))
IsCheck p entries text (Some end) = (text ≡ recheck_text p entries) × (end ≡ rechecked_of p entries)

-- of a check that ended so, or was cut off
abbrev pub check_status : Option Rechecked → Status
check_status None = status.Memory
check_status (Some check.Accepted) = status.Done
check_status (Some check.Refused) = status.Refused

-- of a trial
abbrev pub trial_status : Trial → Status
trial_status (trial.Right calls lines any) = status.Done
trial_status trial.Ended = status.NoAnswer
trial_status trial.Spent = status.Spent
trial_status trial.Overflow = status.Overflow
