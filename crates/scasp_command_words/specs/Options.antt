-- The options of a run: `--budget N`, `--answers N` and `--format N` in any order, each at most once.
use Rattle.std.specs.Prelude.{ℕ, ◌&&◌, is_none, Option, None, Some, option_map, option_and_then, if◌then◌else◌, List, [], ◌∷◌, codes}
use Rattle.std.specs.Str.{bytes_eq}
use Rattle.scasp_command_words.specs.Numbers.{number_between}
use Rattle.scasp_command_words.specs.declared.format.Format.{Format}
use Rattle.scasp_command_words.specs.declared.format.Format.TheVariants.{Whole, Shared}
use Rattle.scasp_command_words.specs.declared.options.Options.{Options}
use Rattle.scasp_command_words.specs.declared.options.TheConstants.{MOST}

-- the version of answer files that a word spells: in version 2 a subtree may be shared
abbrev pub format_of : List ℕ → Option Format
format_of number = if bytes_eq number (codes "1") then Some Whole else if bytes_eq number (codes "2") then Some Shared else None

-- the options with one more, which was not given before
abbrev pub with_option : Options → List ℕ → List ℕ → Option Options
with_option given name number =
    if bytes_eq name (codes "--budget") && is_none given.budget then option_map (λ n. record given { budget = Some n }) (number_between 1 MOST number)
    else if bytes_eq name (codes "--answers") && is_none given.answers then option_map (λ n. record given { answers = Some n }) (number_between 0 MOST number)
    else if bytes_eq name (codes "--format") && is_none given.format then option_map (λ f. record given { format = Some f }) (format_of number)
    else None

-- the options with those that the words spell
abbrev pub with_options : Options → List (List ℕ) → Option Options
with_options given [] = Some given
with_options given (name ∷ []) = None
with_options given (name ∷ number ∷ more) = option_and_then (λ o. with_options o more) (with_option given name number)
