-- Which words are a command, and which one.
use Rattle.std.specs.Prelude.{ℕ, ◌&&◌, nat_le, Option, None, Some, option_map, unwrap_or, if◌then◌else◌, List, [], ◌∷◌, length, codes}
use Rattle.std.specs.Str.{bytes_eq}
use Rattle.scasp_command_words.specs.Numbers.{number_between}
use Rattle.scasp_command_words.specs.Options.{with_options}
use Rattle.scasp_command_words.specs.declared.command.Command.{Command}
use Rattle.scasp_command_words.specs.declared.command.Command.TheVariants.{Run, Check, Trial, Extend, Recheck}
use Rattle.scasp_command_words.specs.declared.command.TheConstants.{DEFAULT_BUDGET, DEFAULT_ANSWERS, DEFAULT_FORMAT, FEWEST_PROGRAMS, MOST_NODES, MOST_PROGRAMS}
use Rattle.scasp_command_words.specs.declared.options.Options.{Options}

-- behind `run`: FILE, and options
abbrev pub run_of : List (List ℕ) → Option Command
run_of [] = None
run_of (file ∷ options) =
    option_map (λ (o : Options). Run file (unwrap_or o.budget DEFAULT_BUDGET) (unwrap_or o.answers DEFAULT_ANSWERS) (unwrap_or o.format DEFAULT_FORMAT))
    (with_options (record { budget = None; answers = None; format = None }) options)

-- behind `check`: PROGRAM ANSWERS
abbrev pub check_of : List (List ℕ) → Option Command
check_of [] = None
check_of (program ∷ []) = None
check_of (program ∷ answers ∷ []) = Some (Check program answers)
check_of (program ∷ answers ∷ word ∷ words) = None

-- behind `trial`: N
abbrev pub trial_of : List (List ℕ) → Option Command
trial_of [] = None
trial_of (number ∷ []) = option_map Trial (number_between 1 MOST_NODES number)
trial_of (number ∷ word ∷ words) = None

-- behind `extend`: PROGRAM ANSWERS DOMAIN
abbrev pub extend_of : List (List ℕ) → Option Command
extend_of [] = None
extend_of (program ∷ []) = None
extend_of (program ∷ answers ∷ []) = None
extend_of (program ∷ answers ∷ domain ∷ []) = Some (Extend program answers domain)
extend_of (program ∷ answers ∷ domain ∷ word ∷ words) = None

-- behind `recheck`: ANSWERS, and the files of 2 to 100 programs
abbrev pub recheck_of : List (List ℕ) → Option Command
recheck_of [] = None
recheck_of (answers ∷ files) =
    if nat_le FEWEST_PROGRAMS (length files) && nat_le (length files) MOST_PROGRAMS then Some (Recheck answers files) else None

-- the command that the words are
abbrev pub command_of : List (List ℕ) → Option Command
command_of [] = None
command_of (word ∷ words) =
    if bytes_eq word (codes "run") then run_of words
    else if bytes_eq word (codes "check") then check_of words
    else if bytes_eq word (codes "trial") then trial_of words
    else if bytes_eq word (codes "extend") then extend_of words
    else if bytes_eq word (codes "recheck") then recheck_of words
    else None
