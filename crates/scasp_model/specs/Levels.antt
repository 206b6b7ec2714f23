-- Ground rules that keep levels and signs of atoms.
use Rattle.std.specs.Prelude.{ℕ, Bool, ◌&&◌, ◌||◌, nat_eq, nat_lt, List}
use Rattle.std.specs.List.{list_all}
use Rattle.scasp_syntax.specs.Same.{same_bool}
use Rattle.scasp_syntax.specs.declared.atom.Atom.{Atom}
use Rattle.scasp_syntax.specs.declared.atom.Lit.{Lit}
use Rattle.scasp_model.specs.Programs.{head_is}
use Rattle.scasp_model.specs.declared.program.GroundClause.{GroundClause}

-- below a head: the literal is of a lower level, or of the same level, and then of the head's sign where it is positive and of the other where it is not
abbrev pub keeps_literal : (Atom → ℕ) → (Atom → Bool) → Atom → Lit → Bool
keeps_literal level plus head l =
    nat_lt (level l.atom) (level head)
    || (nat_eq (level l.atom) (level head) && same_bool l.positive (same_bool (plus head) (plus l.atom)))

-- a rule, each literal of whose body does; a denial has no head and never keeps them
abbrev pub keeps_rule : (Atom → ℕ) → (Atom → Bool) → GroundClause → Bool
keeps_rule level plus c = head_is (λ a. list_all (keeps_literal level plus a) c.body) c.head

-- each clause is such a rule
abbrev pub keeps_levels : (Atom → ℕ) → (Atom → Bool) → List GroundClause → Bool
keeps_levels level plus g = list_all (keeps_rule level plus) g
