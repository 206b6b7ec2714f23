-- Which words behind `at` ask for a place, and for which one.
use Rattle.std.specs.Prelude.{ℕ, Option, None, Some, option_map, List, [], ◌∷◌}
use Rattle.scasp_command_words.specs.Numbers.{number_between}
use Rattle.scasp_view_top.specs.declared.words.place.Place.{Place}
use Rattle.scasp_view_top.specs.declared.words.place.TheConstants.{MOST_BYTE}

abbrev pub place_at : List ℕ → ℕ → Place
place_at file byte = record { file = file; byte = byte }

-- behind `at FILE`: BYTE
abbrev pub place_of : List ℕ → List (List ℕ) → Option Place
place_of file [] = None
place_of file (byte ∷ []) = option_map (place_at file) (number_between 0 MOST_BYTE byte)
place_of file (byte ∷ word ∷ words) = None

-- behind `at`: FILE BYTE
abbrev pub at_of : List (List ℕ) → Option Place
at_of [] = None
at_of (file ∷ words) = place_of file words
