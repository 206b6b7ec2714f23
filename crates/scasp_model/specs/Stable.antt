-- Stable models of ground programs (Gelfond and Lifschitz 1988), with denials.
use Rattle.std.specs.Prelude.{Bool, ◌&&◌, not, IsTrue, List, if◌then◌else◌}
use Rattle.std.specs.List.{list_all, list_any}
use Rattle.scasp_syntax.specs.declared.atom.Atom.{Atom}
use Rattle.scasp_syntax.specs.declared.atom.Lit.{Lit}
use Rattle.scasp_model.specs.Atoms.{among, SameAtoms}
use Rattle.scasp_model.specs.Least.{least_model}
use Rattle.scasp_model.specs.Programs.{is_headless}
use Rattle.scasp_model.specs.Reduct.{reduct}
use Rattle.scasp_model.specs.declared.program.GroundClause.{GroundClause}

-- an atom holds where it is in m, and its negation where it is not
abbrev pub is_true_in : List Atom → Lit → Bool
is_true_in m l = if l.positive then among m l.atom else not (among m l.atom)

abbrev pub are_true_in : List Atom → List Lit → Bool
are_true_in m body = list_all (is_true_in m) body

-- the clause is a denial, which has no head, and its body is true in m
abbrev pub is_violated : List Atom → GroundClause → Bool
is_violated m c = is_headless c.head && are_true_in m c.body

abbrev pub has_violation : List Atom → List GroundClause → Bool
has_violation m g = list_any (is_violated m) g

-- m is a stable model of g
pub record Stable (g : List GroundClause) (m : List Atom) : Type 0 where
  pub least_of_reduct : SameAtoms m (least_model (reduct m g))
  pub no_violation : IsTrue (not (has_violation m g))
