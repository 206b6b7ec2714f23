-- The choice atoms of a program over a domain, and the stable models before and behind the translation.
use Rattle.std.specs.Prelude.{ℕ, not, List, [], ◌++◌, map, filter, Some, IsTrue}
use Rattle.std.specs.List.{flat_map}
use Rattle.scasp_model.specs.Atoms.{among, has_all}
use Rattle.scasp_model.specs.Grounding.{choices, instances, ground_program}
use Rattle.scasp_model.specs.Stable.{Stable}
use Rattle.scasp_model.specs.declared.program.GroundClause.{GroundClause}
use Rattle.scasp_syntax.specs.Tm.{Tm, listed}
use Rattle.scasp_syntax.specs.declared.atom.Atom.{Atom}
use Rattle.scasp_syntax.specs.declared.atom.Pred.{Pred}
use Rattle.scasp_syntax.specs.declared.program.Program.{Program}
use Rattle.scasp_abduce.specs.Occurrences.{has}
use Rattle.scasp_abduce.specs.Translation.{Choice, atom_of, translation}

-- the atoms of a predicate whose arguments are members of d
abbrev pub atoms_over : List Tm → Pred → List Atom
atoms_over d p = map (λ ts. atom_of p (listed ts)) (choices d p.arity)

-- the choice atoms: those of the abducible predicates
abbrev pub choices_of : List Tm → Program → List Atom
choices_of d p = flat_map (atoms_over d) p.abducibles

abbrev pub fact : Atom → GroundClause
fact a = record { head = Some a; body = [] }

abbrev pub facts : List Atom → List GroundClause
facts atoms = map fact atoms

-- those of the atoms that are in m
abbrev pub those_in : List Atom → List Atom → List Atom
those_in m atoms = filter (among m) atoms

-- the program over d with these atoms as facts
abbrev pub assuming : List Tm → Program → List Atom → List GroundClause
assuming d p atoms = facts atoms ++ ground_program d p

-- the translation over d
abbrev pub ground_translation : List Tm → List (List ℕ) → Program → List GroundClause
ground_translation d names p = flat_map (instances d) (translation names p).clauses

-- m without the atoms of the new names
abbrev pub without_new : List Choice → List Atom → List Atom
without_new cs m = filter (λ a. not (has (map (λ c. c.opposite.name) cs) a.name)) m

-- the atoms N(d1, .., dn) of a choice of which p(d1, .., dn) is not in m
abbrev pub denied_of : List Tm → List Atom → Choice → List Atom
denied_of d m c =
    map (λ ts. atom_of c.opposite (listed ts))
    (filter (λ ts. not (among m (atom_of c.pred (listed ts)))) (choices d c.pred.arity))

-- m with those of all choices
abbrev pub with_denied : List Tm → List Choice → List Atom → List Atom
with_denied d cs m = m ++ flat_map (denied_of d m) cs

-- a stable model of the translation is, without the new names, one of the program that assumes its choice atoms
abbrev pub Less : Type 0
Less =
    (names : List (List ℕ)) (p : Program) (d : List Tm) (m : List Atom)
    → Stable (ground_translation d names p) m
    → Stable (assuming d p (those_in m (choices_of d p))) (without_new (translation names p).choices m)

-- a stable model of the program that assumes some choice atoms is, with the new atoms of the others, one of the translation
abbrev pub More : Type 0
More =
    (names : List (List ℕ)) (p : Program) (d : List Tm) (atoms m : List Atom)
    → IsTrue (has_all (choices_of d p) atoms)
    → Stable (assuming d p atoms) m
    → Stable (ground_translation d names p) (with_denied d (translation names p).choices m)
