-- Why a ground program has these atoms true and those false, before any model of it is known.
use Rattle.std.specs.Prelude.{◌≡◌, ℕ, ◌<◌, ◌⊎◌, ◌||◌, not, IsTrue, List, ◌++◌, map, filter, Some, Contains}
use Rattle.std.specs.List.{list_any}
use Rattle.scasp_syntax.specs.declared.atom.Atom.{Atom}
use Rattle.scasp_syntax.specs.declared.atom.Lit.{Lit}
use Rattle.scasp_model.specs.Atoms.{among, has_all}
use Rattle.scasp_model.specs.Programs.{positive_atoms}
use Rattle.scasp_model.specs.Residual.{is_known_false, residual}
use Rattle.scasp_model.specs.Stable.{Stable}
use Rattle.scasp_model.specs.declared.program.GroundClause.{GroundClause}

-- the atoms of a body that stand behind `not`
abbrev pub negated_atoms : List Lit → List Atom
negated_atoms body = map (λ l. l.atom) (filter (λ l. not l.positive) body)

-- the clause is a rule of g for the atom a, and each atom that it negates is among f
pub record IsRuleFor (g : List GroundClause) (f : List Atom) (a : Atom) (c : GroundClause) : Type 0 where
  pub listed : Contains g c
  pub head : c.head ≡ Some a
  pub negated : IsTrue (has_all f (negated_atoms c.body))

-- a has a rule whose positive atoms are founded in their turn; so no atom rests on itself
pub data Founded (g : List GroundClause) (f : List Atom) : Atom → Type 0 where
  by_rule : (a : Atom) (c : GroundClause) → IsRuleFor g f a c → ((b : Atom) → IsTrue (among (positive_atoms c.body) b) → Founded g f b) → Founded g f a

-- in g the atoms of t are true and those of f are false, whatever the others are: no atom is in both,
-- each of t is founded, and each rule for one of f has a literal that t and f make false
pub record Supports (g : List GroundClause) (t f : List Atom) : Type 0 where
  pub apart : (a : Atom) → IsTrue (among t a) → IsTrue (not (among f a))
  pub founded : (a : Atom) → IsTrue (among t a) → Founded g f a
  pub refuted : (c : GroundClause) (a : Atom) → Contains g c → c.head ≡ Some a → IsTrue (among f a) → IsTrue (list_any (is_known_false t f) c.body)

-- each stable model of what t and f leave of g is, with t, a stable model of g
abbrev pub Joins : List GroundClause → List Atom → List Atom → Type 0
Joins g t f = (m : List Atom) → Stable (residual t f g) m → Stable g (t ++ m)

-- a has a rule whose positive atoms are all among t and below it
pub record RestsBelow (g : List GroundClause) (t f : List Atom) (Below : Atom → Atom → Type 0) (a : Atom) : Type 0 where
  pub clause : GroundClause
  pub rule : IsRuleFor g f a clause
  pub known : IsTrue (has_all t (positive_atoms clause.body))
  pub smaller : (b : Atom) → IsTrue (among (positive_atoms clause.body) b) → Below b a

-- below by a rank
abbrev pub Lower : (Atom → ℕ) → Atom → Atom → Type 0
Lower rank b a = rank b < rank a

-- below by a first rank, or where that is the same by a second
abbrev pub LowerInPair : {X : Type 0} → (X → ℕ) → (X → ℕ) → X → X → Type 0
LowerInPair first second y x = (first y < first x) ⊎ ((first y ≡ first x) × (second y < second x))

-- each atom that stands in a body of g is among t or among f
abbrev pub BodiesWithin : List GroundClause → List Atom → List Atom → Type 0
BodiesWithin g t f = (c : GroundClause) (l : Lit) → Contains g c → Contains c.body l → IsTrue (among t l.atom || among f l.atom)
