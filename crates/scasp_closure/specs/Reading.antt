-- Rules over numbers, read by a list that gives each number its atom.
use Rattle.std.specs.Prelude.{◌≡◌, ℕ, suc, ◌+◌, ◌++◌, Bool, if◌then◌else◌, List, [], ◌∷◌, slice_get, Some}
use Rattle.scasp_model.specs.declared.program.DefiniteRule.{DefiniteRule}
use Rattle.scasp_syntax.specs.declared.atom.Atom.{Atom}
use Rattle.scasp_tables.specs.Tables.{with_atom}
use Rattle.scasp_worklist.specs.declared.numbered.NumberedRule.{NumberedRule}

-- the numbers stand for these atoms, in order
abbrev pub Stand : List Atom → List ℕ → List Atom → Type 0
Stand table [] [] = Unit {0}
Stand table [] (a ∷ atoms) = ⊥
Stand table (n ∷ numbers) [] = ⊥
Stand table (n ∷ numbers) (a ∷ atoms) = (slice_get table n ≡ Some a) × Stand table numbers atoms

-- the rules over numbers stand for these rules, in order
abbrev pub StandFor : List Atom → List NumberedRule → List DefiniteRule → Type 0
StandFor table [] [] = Unit {0}
StandFor table [] (r ∷ rules) = ⊥
StandFor table (n ∷ numbered) [] = ⊥
StandFor table (n ∷ numbered) (r ∷ rules) = (slice_get table n.head ≡ Some r.head) × Stand table n.body r.body × StandFor table numbered rules

-- each number keeps its atom
abbrev pub Extends : List Atom → List Atom → Type 0
Extends old new = (n : ℕ) (a : Atom) → slice_get old n ≡ Some a → slice_get new n ≡ Some a

-- the atoms whose numbers, which are their places, are in the set
abbrev pub atoms_in : (ℕ → Bool) → List Atom → List Atom
atoms_in set [] = []
atoms_in set (a ∷ atoms) = if set 0 then a ∷ atoms_in (λ n. set (suc n)) atoms else atoms_in (λ n. set (suc n)) atoms

-- the same, one atom after the other: those made so far, and behind them the atoms whose numbers from n on are in the set
abbrev pub atoms_onto : (ℕ → Bool) → ℕ → List Atom → List Atom → List Atom
atoms_onto set n made [] = made
atoms_onto set n made (a ∷ atoms) = atoms_onto set (n + 1) (if set n then made ++ a ∷ [] else made) atoms

-- the list, and behind it each of the atoms that is new, in order
abbrev pub with_atoms : List Atom → List Atom → List Atom
with_atoms table [] = table
with_atoms table (a ∷ atoms) = with_atoms (with_atom table a) atoms
