-- The line of a trial.
use Rattle.std.specs.Prelude.{ℕ, Bool, if◌then◌else◌, List, ◌++◌, codes, decimal}
use Rattle.scasp_command_trial.specs.declared.first.Trial.{Trial}
use Rattle.scasp_command_trial.specs.declared.first.Trial.TheVariants.{Right, Ended, Spent, Overflow}

-- over which domains a right answer holds
abbrev pub domain_words : Bool → List ℕ
domain_words any = if any then codes " right any" else codes " right closed"

-- of an answer: the calls, the lines, and over which domains it holds
abbrev pub right_words : ℕ → ℕ → Bool → List ℕ
right_words calls lines any =
    codes " calls " ++ decimal calls ++ codes " lines " ++ decimal lines ++ domain_words any

abbrev pub trial_words : Trial → List ℕ
trial_words (Right calls lines any) = right_words calls lines any
trial_words Ended = codes " ended"
trial_words Spent = codes " spent"
trial_words Overflow = codes " overflow"

-- the line of the trial of so many nodes
abbrev pub trial_line : ℕ → Trial → List ℕ
trial_line n trial = codes "trial " ++ decimal n ++ trial_words trial ++ codes "\n"
