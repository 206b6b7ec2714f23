-- Words that ask for a place or a program, and words that ask for nothing, computed.
use Rattle.std.specs.Prelude.{◌≡◌, ℕ, true, false, None, Some, List, [], ◌∷◌, codes, refl}
use Rattle.scasp_view_top.specs.Words.Asked.{asked_of}
use Rattle.scasp_view_top.specs.Words.Places.{place_at}
use Rattle.scasp_view_top.specs.declared.words.asked.Asked.TheVariants.{Answers, Place, Program}

first_byte : asked_of (codes "at" ∷ codes "p" ∷ codes "0" ∷ []) ≡ Some (Place (place_at (codes "p") 0))
first_byte = refl

some_byte : asked_of (codes "at" ∷ codes "at" ∷ codes "262" ∷ []) ≡ Some (Place (place_at (codes "at") 262))
some_byte = refl

a_program : asked_of (codes "p.pl" ∷ []) ≡ Some (Program (codes "p.pl"))
a_program = refl

in_a_folder : asked_of (codes "./--p" ∷ []) ≡ Some (Program (codes "./--p"))
in_a_folder = refl

some_answers : asked_of (codes "p.pl" ∷ codes "a" ∷ []) ≡ Some (Answers (codes "p.pl") (codes "a") (record { checks = false; once = false; query = None; plain = false }))
some_answers = refl

with_all_options : asked_of (codes "p" ∷ codes "a" ∷ codes "--plain" ∷ codes "--query" ∷ codes "2" ∷ codes "--once" ∷ codes "--checks" ∷ [])
    ≡ Some (Answers (codes "p") (codes "a") (record { checks = true; once = true; query = Some 2; plain = true }))
with_all_options = refl

-- ---- none

no_word : asked_of [] ≡ None
no_word = refl

another_word : asked_of (codes "in" ∷ codes "p" ∷ codes "0" ∷ []) ≡ None
another_word = refl

at_nothing : asked_of (codes "at" ∷ []) ≡ None
at_nothing = refl

no_byte : asked_of (codes "at" ∷ codes "p" ∷ []) ≡ None
no_byte = refl

leading_zero : asked_of (codes "at" ∷ codes "p" ∷ codes "01" ∷ []) ≡ None
leading_zero = refl

no_number : asked_of (codes "at" ∷ codes "p" ∷ codes "1x" ∷ []) ≡ None
no_number = refl

one_word_more : asked_of (codes "at" ∷ codes "p" ∷ codes "1" ∷ codes "2" ∷ []) ≡ None
one_word_more = refl

unknown_option : asked_of (codes "--help" ∷ []) ≡ None
unknown_option = refl

option_in_place_of_answers : asked_of (codes "p" ∷ codes "--once" ∷ []) ≡ None
option_in_place_of_answers = refl

third_file : asked_of (codes "p" ∷ codes "a" ∷ codes "b" ∷ []) ≡ None
third_file = refl

option_twice : asked_of (codes "p" ∷ codes "a" ∷ codes "--once" ∷ codes "--once" ∷ []) ≡ None
option_twice = refl

no_query_number : asked_of (codes "p" ∷ codes "a" ∷ codes "--query" ∷ []) ≡ None
no_query_number = refl

query_zero : asked_of (codes "p" ∷ codes "a" ∷ codes "--query" ∷ codes "0" ∷ []) ≡ None
query_zero = refl

two_queries : asked_of (codes "p" ∷ codes "a" ∷ codes "--query" ∷ codes "1" ∷ codes "--query" ∷ codes "2" ∷ []) ≡ None
two_queries = refl
