-- Ground rules and denials.
use Rattle.std.specs.Prelude.{Bool, true, false, ◌&&◌, not, List, map, filter, Option, None, Some}
use Rattle.std.specs.List.{list_all, list_any}
use Rattle.scasp_syntax.specs.declared.atom.Atom.{Atom}
use Rattle.scasp_syntax.specs.declared.atom.Lit.{Lit}
use Rattle.scasp_model.specs.Atoms.{among}
use Rattle.scasp_model.specs.declared.program.GroundClause.{GroundClause}

-- the atoms of a body that stand without `not`
abbrev pub positive_atoms : List Lit → List Atom
positive_atoms body = map (λ l. l.atom) (filter (λ l. l.positive) body)

-- the body has `not` before an atom of m
abbrev pub is_blocked : List Atom → List Lit → Bool
is_blocked m body = list_any (λ l. not l.positive && among m l.atom) body

-- the body has no `not`
abbrev pub is_positive : List Lit → Bool
is_positive body = list_all (λ l. l.positive) body

-- no body has `not`
abbrev pub is_without_not : List GroundClause → Bool
is_without_not g = list_all (λ c. is_positive c.body) g

-- the clause has no head
abbrev pub is_headless : Option Atom → Bool
is_headless None = true
is_headless (Some a) = false

-- the clause has a head that passes the test
abbrev pub head_is : (Atom → Bool) → Option Atom → Bool
head_is test None = false
head_is test (Some a) = test a

-- the rules whose heads pass the test
abbrev pub rules_for : (Atom → Bool) → List GroundClause → List GroundClause
rules_for test g = filter (λ c. head_is test c.head) g
