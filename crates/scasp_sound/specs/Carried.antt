-- Atoms that the members of a family carry, each by a rule whose positive atoms lower members carry.
use Rattle.std.specs.Prelude.{ℕ, IsTrue, List}
use Rattle.scasp_syntax.specs.declared.atom.Atom.{Atom}
use Rattle.scasp_model.specs.Atoms.{among}
use Rattle.scasp_model.specs.Programs.{positive_atoms}
use Rattle.scasp_model.specs.declared.program.GroundClause.{GroundClause}
use Rattle.scasp_sound.specs.Support.{IsRuleFor, LowerInPair}

-- some member of a lower pair of ranks than x carries the atom
pub record CarriedBelow {X : Type 0} (Carries : X → Atom → Type 0) (first second : X → ℕ) (x : X) (a : Atom) : Type 0 where
  pub by : X
  pub carries : Carries by a
  pub lower : LowerInPair first second by x

-- the atom a of the member x has a rule whose negated atoms are among f and whose positive atoms are carried below x
pub record CarriedByRule {X : Type 0} (g : List GroundClause) (f : List Atom) (Carries : X → Atom → Type 0) (first second : X → ℕ) (x : X) (a : Atom) : Type 0 where
  pub clause : GroundClause
  pub rule : IsRuleFor g f a clause
  pub below : (b : Atom) → IsTrue (among (positive_atoms clause.body) b) → CarriedBelow Carries first second x b
