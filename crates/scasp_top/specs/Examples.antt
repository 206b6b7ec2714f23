-- Small cases of the definitions, computed.
use Rattle.std.specs.Prelude.{◌≡◌, true, None, Some, [], ◌∷◌, refl}
use Rattle.scasp_command_run.specs.declared.ends.RunEnd.TheVariants as run
use Rattle.scasp_command_check.specs.declared.checking.Rechecked.TheVariants as check
use Rattle.scasp_command_inputs.specs.declared.status.Status.TheVariants.{Done, NoAnswer, Spent, Overflow, Memory, Refused}
use Rattle.scasp_command_trial.specs.declared.first.Trial.TheVariants as trial
use Rattle.scasp_top.specs.Ends.{run_status, check_status, trial_status}
use Rattle.scasp_top.specs.Outputs.{asked_answers}

run_ends : run_status (Some run.Done) ∷ run_status (Some run.NoAnswer) ∷ run_status (Some run.Spent) ∷ run_status (Some run.Overflow) ∷ run_status None ∷ []
    ≡ Done ∷ NoAnswer ∷ Spent ∷ Overflow ∷ Memory ∷ []
run_ends = refl

check_ends : check_status (Some check.Accepted) ∷ check_status (Some check.Refused) ∷ check_status None ∷ [] ≡ Done ∷ Refused ∷ Memory ∷ []
check_ends = refl

trial_ends : trial_status (trial.Right 9 13 true) ∷ trial_status trial.Ended ∷ trial_status trial.Spent ∷ trial_status trial.Overflow ∷ []
    ≡ Done ∷ NoAnswer ∷ Spent ∷ Overflow ∷ []
trial_ends = refl

all_answers : asked_answers 0 ≡ None
all_answers = refl

two_answers : asked_answers 2 ≡ Some 2
two_answers = refl
