-- The options behind the files: `--checks`, `--once`, `--query Q` and `--plain` in any order, each at most once.
use Rattle.std.specs.Prelude.{ℕ, Bool, true, false, not, ◌&&◌, is_none, Option, None, Some, option_map, option_and_then, if◌then◌else◌, List, [], ◌∷◌, codes}
use Rattle.std.specs.Str.{bytes_eq}
use Rattle.scasp_command_words.specs.Numbers.{number_between}
use Rattle.scasp_view_top.specs.declared.words.options.Options.{Options}
use Rattle.scasp_view_top.specs.declared.words.options.Taken.{Taken}
use Rattle.scasp_view_top.specs.declared.words.options.TheConstants.{MOST_QUERY}

abbrev pub no_options : Options
no_options = record { checks = false; once = false; query = None; plain = false }

-- the options with one without a number, which was not given before
abbrev pub with_flag : Options → List ℕ → Option Options
with_flag given word =
    if bytes_eq word (codes "--checks") && not given.checks then Some (record given { checks = true })
    else if bytes_eq word (codes "--once") && not given.once then Some (record given { once = true })
    else if bytes_eq word (codes "--plain") && not given.plain then Some (record given { plain = true })
    else None

-- the options with a query, where none was given before
abbrev pub with_query : Options → List ℕ → Option Options
with_query given number =
    if is_none given.query then option_map (λ q. record given { query = Some q }) (number_between 1 MOST_QUERY number) else None

-- what has been read, and whether the number of a query has to come next
abbrev pub taken : Bool → Options → Taken
taken awaits o = record { options = o; awaits = awaits }

abbrev pub with_number : Options → List ℕ → Option Taken
with_number o word = option_map (taken false) (with_query o word)

abbrev pub with_name : Options → List ℕ → Option Taken
with_name o word = if bytes_eq word (codes "--query") then Some (taken true o) else option_map (taken false) (with_flag o word)

abbrev pub with_word : Taken → List ℕ → Option Taken
with_word t word = if t.awaits then with_number t.options word else with_name t.options word

abbrev pub with_words : Taken → List (List ℕ) → Option Taken
with_words t [] = Some t
with_words t (word ∷ words) = option_and_then (λ s. with_words s words) (with_word t word)

-- the options, where no number is missing
abbrev pub whole : Taken → Option Options
whole t = if t.awaits then None else Some t.options

-- the options that the words spell
abbrev pub options_in : List (List ℕ) → Option Options
options_in words = option_and_then whole (with_words (taken false no_options) words)
