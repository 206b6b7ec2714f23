-- Which lines are a command, and which one.
use Rattle.std.specs.Prelude.{◌==◌, ℕ, Option, None, Some, option_map, option_and_then, if◌then◌else◌, List, codes}
use Rattle.std.specs.List.{after_first, before_first}
use Rattle.std.specs.Str.{bytes_eq}
use Rattle.scasp_command_words.specs.Numbers.{number_between}
use Rattle.scasp_serve_words.specs.declared.command.Command.{Command}
use Rattle.scasp_serve_words.specs.declared.command.Command.TheVariants.{Open, Next, Close}
use Rattle.scasp_serve_words.specs.declared.command.TheConstants.{MOST_BUDGET, MOST_NUMBER}

-- what stands before the first blank, or all
abbrev pub first_word : List ℕ → List ℕ
first_word text = before_first (λ b. b == 32) text

-- what stands behind the first blank, or nothing
abbrev pub behind_word : List ℕ → List ℕ
behind_word text = after_first (λ b. b == 32) text

-- behind `open`: QUERY BUDGET
abbrev pub open_in : List ℕ → Option Command
open_in numbers =
    option_and_then (λ query. option_map (λ budget. Open query budget) (number_between 1 MOST_BUDGET (behind_word numbers)))
    (number_between 1 MOST_NUMBER (first_word numbers))

-- behind `next`: ID CALLS
abbrev pub next_in : List ℕ → Option Command
next_in numbers =
    option_and_then (λ id. option_map (λ calls. Next id calls) (number_between 0 MOST_NUMBER (behind_word numbers)))
    (number_between 1 MOST_NUMBER (first_word numbers))

-- behind `close`: ID
abbrev pub close_in : List ℕ → Option Command
close_in number = option_map (λ id. Close id) (number_between 1 MOST_NUMBER number)

-- the command that a line is, without its line feed
abbrev pub command_in : List ℕ → Option Command
command_in line =
    if bytes_eq (first_word line) (codes "open") then open_in (behind_word line)
    else if bytes_eq (first_word line) (codes "next") then next_in (behind_word line)
    else if bytes_eq (first_word line) (codes "close") then close_in (behind_word line)
    else None
