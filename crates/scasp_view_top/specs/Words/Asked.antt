-- What words ask to be shown.
use Rattle.std.specs.Prelude.{ℕ, Bool, not, Option, None, Some, option_map, if◌then◌else◌, List, [], ◌∷◌, take, codes}
use Rattle.std.specs.Str.{bytes_eq}
use Rattle.scasp_view_top.specs.Words.Options.{options_in}
use Rattle.scasp_view_top.specs.Words.Places.{at_of}
use Rattle.scasp_view_top.specs.declared.words.asked.Asked.{Asked}
use Rattle.scasp_view_top.specs.declared.words.asked.Asked.TheVariants as asked

-- a word that begins with `--` names no file
abbrev pub is_file : List ℕ → Bool
is_file word = not (bytes_eq (take 2 word) (codes "--"))

-- PROGRAM ANSWERS, and options
abbrev pub answers_of : List ℕ → List ℕ → List (List ℕ) → Option Asked
answers_of program answers words =
    if is_file answers then option_map (λ options. asked.Answers program answers options) (options_in words) else None

-- PROGRAM alone, or with ANSWERS
abbrev pub program_of : List ℕ → List (List ℕ) → Option Asked
program_of file [] = if is_file file then Some (asked.Program file) else None
program_of file (answers ∷ words) = if is_file file then answers_of file answers words else None

-- `at FILE BYTE` asks for a place, and so is no program named `at`
abbrev pub asked_of : List (List ℕ) → Option Asked
asked_of [] = None
asked_of (word ∷ words) = if bytes_eq word (codes "at") then option_map asked.Place (at_of words) else program_of word words
