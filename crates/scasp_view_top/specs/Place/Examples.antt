-- Places in small texts, computed.
use Rattle.std.specs.Prelude.{◌≡◌, ℕ, List, [], ◌∷◌, codes, take, drop, refl}
use Rattle.scasp_view_top.specs.Place.Places.{column, line_number, line_text, mark_text, reached}

abbrev two_lines : List ℕ
two_lines = codes "p.\nq :- r s.\n"

-- its byte 10 is the `s` of the second line
second_line : line_number (take 10 two_lines) ≡ 2
second_line = refl

its_column : column (take 10 two_lines) (drop 10 two_lines) ≡ 8
its_column = refl

whole_line : line_text (take 10 two_lines) (drop 10 two_lines) ≡ codes "q :- r s.\n"
unfolding line_text
whole_line = refl

-- the first place, and the one behind the last byte
first_place : column [] two_lines ≡ 1
first_place = refl

last_line_number : line_number two_lines ≡ 3
last_line_number = refl

last_column : column two_lines [] ≡ 1
last_column = refl

no_text : column [] [] ≡ 1
no_text = refl

-- two characters of two bytes each, and a tab: each byte of the second one is at column 2, and the tab stands at column 3
abbrev wide : List ℕ
wide = 195 ∷ 164 ∷ 195 ∷ 182 ∷ 9 ∷ 120 ∷ []

first_of_two : column (take 2 wide) (drop 2 wide) ≡ 2
first_of_two = refl

second_of_two : column (take 3 wide) (drop 3 wide) ≡ 2
second_of_two = refl

the_tab : column (take 4 wide) (drop 4 wide) ≡ 3
the_tab = refl

-- the mark stands below the character
below : mark_text (reached (take 5 wide) (drop 5 wide)) ≡ codes "  \t^\n"
unfolding mark_text
below = refl

-- a byte that belongs to no character is one of its own
alone : column (120 ∷ []) (128 ∷ []) ≡ 2
alone = refl
