-- Keys as lists of numbers.
use Rattle.std.specs.Prelude.{ℕ, List, [], ◌∷◌, ◌++◌, length, take, drop}
use Rattle.std.specs.Hash as fed
use Rattle.scasp_print_shared.specs.declared.table.Key.{Key}

-- how many bytes the words have, the words, and the classes: keys of other words or other classes have other numbers
abbrev pub numbers : List ℕ → List ℕ → List ℕ
numbers words classes = length words ∷ words ++ classes

abbrev pub numbers_of : Key → List ℕ
numbers_of k = numbers k.words.now k.below.items

-- what is written of these numbers to a hash: the words at once, and then the classes
abbrev pub written_of : List ℕ → List (List ℕ)
written_of [] = []
written_of (n ∷ ns) = take n ns ∷ fed.slice fed.usize (drop n ns)
