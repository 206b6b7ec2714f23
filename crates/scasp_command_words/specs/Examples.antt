-- Words that are a command, and words that are none, computed.
use Rattle.std.specs.Prelude.{◌≡◌, ℕ, None, Some, List, [], ◌∷◌, codes, replicate, refl}
use Rattle.scasp_command_words.specs.Commands.{command_of}
use Rattle.scasp_command_words.specs.declared.command.Command.TheVariants.{Run, Check, Trial, Extend, Recheck}
use Rattle.scasp_command_words.specs.declared.format.Format.TheVariants.{Whole, Shared}

abbrev run_p : List (List ℕ) → List (List ℕ)
run_p options = codes "run" ∷ codes "p" ∷ options

defaults : command_of (run_p []) ≡ Some (Run (codes "p") 50000 1 Whole)
defaults = refl

both : command_of (run_p (codes "--budget" ∷ codes "20" ∷ codes "--answers" ∷ codes "0" ∷ [])) ≡ Some (Run (codes "p") 20 0 Whole)
both = refl

other_order : command_of (run_p (codes "--answers" ∷ codes "1000000000" ∷ codes "--budget" ∷ codes "1" ∷ [])) ≡ Some (Run (codes "p") 1 1000000000 Whole)
other_order = refl

all_three : command_of (run_p (codes "--format" ∷ codes "2" ∷ codes "--answers" ∷ codes "3" ∷ codes "--budget" ∷ codes "20" ∷ [])) ≡ Some (Run (codes "p") 20 3 Shared)
all_three = refl

first_format : command_of (run_p (codes "--format" ∷ codes "1" ∷ [])) ≡ Some (Run (codes "p") 50000 1 Whole)
first_format = refl

check_two : command_of (codes "check" ∷ codes "p" ∷ codes "a" ∷ []) ≡ Some (Check (codes "p") (codes "a"))
check_two = refl

abbrev trial_n : List ℕ → List (List ℕ)
trial_n number = codes "trial" ∷ number ∷ []

one_node : command_of (trial_n (codes "1")) ≡ Some (Trial 1)
one_node = refl

most_nodes : command_of (trial_n (codes "1000")) ≡ Some (Trial 1000)
most_nodes = refl

extend_three : command_of (codes "extend" ∷ codes "p" ∷ codes "a" ∷ codes "d" ∷ []) ≡ Some (Extend (codes "p") (codes "a") (codes "d"))
extend_three = refl

abbrev recheck_a : List (List ℕ) → List (List ℕ)
recheck_a programs = codes "recheck" ∷ codes "a" ∷ programs

two_programs : command_of (recheck_a (codes "p" ∷ codes "q" ∷ [])) ≡ Some (Recheck (codes "a") (codes "p" ∷ codes "q" ∷ []))
two_programs = refl

most_programs : command_of (recheck_a (replicate 100 (codes "p"))) ≡ Some (Recheck (codes "a") (replicate 100 (codes "p")))
most_programs = refl

-- a file may have any name
named_as_an_option : command_of (codes "run" ∷ codes "--budget" ∷ []) ≡ Some (Run (codes "--budget") 50000 1 Whole)
named_as_an_option = refl

-- ---- none

no_word : command_of [] ≡ None
no_word = refl

no_file : command_of (codes "run" ∷ []) ≡ None
no_file = refl

one_word_more : command_of (run_p (codes "q" ∷ [])) ≡ None
one_word_more = refl

longer_word : command_of (codes "runs" ∷ codes "p" ∷ []) ≡ None
longer_word = refl

no_answers : command_of (codes "check" ∷ codes "p" ∷ []) ≡ None
no_answers = refl

too_many_files : command_of (codes "check" ∷ codes "p" ∷ codes "a" ∷ codes "b" ∷ []) ≡ None
too_many_files = refl

budget_twice : command_of (run_p (codes "--budget" ∷ codes "2" ∷ codes "--budget" ∷ codes "2" ∷ [])) ≡ None
budget_twice = refl

format_twice : command_of (run_p (codes "--format" ∷ codes "1" ∷ codes "--format" ∷ codes "2" ∷ [])) ≡ None
format_twice = refl

no_format : command_of (run_p (codes "--format" ∷ codes "0" ∷ [])) ≡ None
no_format = refl

third_format : command_of (run_p (codes "--format" ∷ codes "3" ∷ [])) ≡ None
third_format = refl

longer_format : command_of (run_p (codes "--format" ∷ codes "02" ∷ [])) ≡ None
longer_format = refl

format_of_a_check : command_of (codes "check" ∷ codes "p" ∷ codes "a" ∷ codes "--format" ∷ codes "2" ∷ []) ≡ None
format_of_a_check = refl

no_budget : command_of (run_p (codes "--budget" ∷ codes "0" ∷ [])) ≡ None
no_budget = refl

leading_zero : command_of (run_p (codes "--answers" ∷ codes "01" ∷ [])) ≡ None
leading_zero = refl

too_large : command_of (run_p (codes "--answers" ∷ codes "1000000001" ∷ [])) ≡ None
too_large = refl

no_digit : command_of (run_p (codes "--answers" ∷ codes "+1" ∷ [])) ≡ None
no_digit = refl

no_number : command_of (run_p (codes "--answers" ∷ [] ∷ [])) ≡ None
no_number = refl

no_node : command_of (trial_n (codes "0")) ≡ None
no_node = refl

zero_before : command_of (trial_n (codes "01")) ≡ None
zero_before = refl

too_many_nodes : command_of (trial_n (codes "1001")) ≡ None
too_many_nodes = refl

no_count : command_of (codes "trial" ∷ []) ≡ None
no_count = refl

two_counts : command_of (codes "trial" ∷ codes "1" ∷ codes "2" ∷ []) ≡ None
two_counts = refl

no_domain : command_of (codes "extend" ∷ codes "p" ∷ codes "a" ∷ []) ≡ None
no_domain = refl

two_domains : command_of (codes "extend" ∷ codes "p" ∷ codes "a" ∷ codes "d" ∷ codes "d" ∷ []) ≡ None
two_domains = refl

one_program : command_of (recheck_a (codes "p" ∷ [])) ≡ None
one_program = refl

no_answer_file : command_of (codes "recheck" ∷ []) ≡ None
no_answer_file = refl

too_many_programs : command_of (recheck_a (replicate 101 (codes "p"))) ≡ None
too_many_programs = refl
