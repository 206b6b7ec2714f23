-- Lines that are a command, and files that are refused, computed.
use Rattle.std.specs.Prelude.{◌≡◌, ℕ, None, Some, List, [], ◌∷◌, ◌++◌, codes, Ok, Err, refl}
use Rattle.scasp_serve_words.specs.Commands.{command_in}
use Rattle.scasp_serve_words.specs.Reading.{commands_in}
use Rattle.scasp_serve_words.specs.declared.command.Command.TheVariants.{Open, Next, Close}

open_line : command_in (codes "open 1 100") ≡ Some (Open 1 100)
open_line = refl

next_line : command_in (codes "next 12 0") ≡ Some (Next 12 0)
next_line = refl

close_line : command_in (codes "close 3") ≡ Some (Close 3)
close_line = refl

no_query_0 : command_in (codes "open 0 5") ≡ None
no_query_0 = refl

no_budget : command_in (codes "open 1 0") ≡ None
no_budget = refl

budget_too_large : command_in (codes "open 1 1000000001") ≡ None
budget_too_large = refl

no_session_0 : command_in (codes "next 0 5") ≡ None
no_session_0 = refl

two_blanks : command_in (codes "next  1 5") ≡ None
two_blanks = refl

blank_between : command_in (codes "open 1  5") ≡ None
blank_between = refl

blank_behind : command_in (codes "close 1 ") ≡ None
blank_behind = refl

blank_before : command_in (codes " close 1") ≡ None
blank_before = refl

one_number_more : command_in (codes "next 1 5 5") ≡ None
one_number_more = refl

one_number : command_in (codes "next 1") ≡ None
one_number = refl

no_number : command_in (codes "close") ≡ None
no_number = refl

no_word : command_in [] ≡ None
no_word = refl

other_word : command_in (codes "opens 1 5") ≡ None
other_word = refl

no_line : commands_in [] ≡ Ok []
no_line = refl

two_lines : commands_in (codes "open 1 5\nclose 1\n") ≡ Ok (Open 1 5 ∷ Close 1 ∷ [])
two_lines = refl

no_line_end : commands_in (codes "open 1 5\nclose 1") ≡ Err 9
no_line_end = refl

empty_line : commands_in (codes "open 1 5\n\nclose 1\n") ≡ Err 9
empty_line = refl

no_command : commands_in (codes "open 1 5\nclose\n") ≡ Err 9
no_command = refl
