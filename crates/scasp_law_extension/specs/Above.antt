-- A whole stable model above what a certificate says.
use Rattle.std.specs.Prelude.{not, IsTrue, List, ◌++◌}
use Rattle.scasp_cert.specs.Certificate.{Certificate}
use Rattle.scasp_law_promise.specs.Good.{residual_over}
use Rattle.scasp_lines.specs.Said.{false_atoms, true_atoms}
use Rattle.scasp_model.specs.Atoms.{among, has_all}
use Rattle.scasp_model.specs.Grounding.{ground_program}
use Rattle.scasp_model.specs.Levelled.{levelled_model}
use Rattle.scasp_model.specs.Stable.{Stable}
use Rattle.scasp_sound.specs.MapLevels.{level_of, plus_of}
use Rattle.scasp_syntax.specs.Tm.{Tm}
use Rattle.scasp_syntax.specs.Values.{Sub}
use Rattle.scasp_syntax.specs.declared.atom.Atom.{Atom}
use Rattle.scasp_syntax.specs.declared.program.Program.{Program}

-- what the certificate says is true where the free variables have these values, and behind that the levelled model, by its map, of
-- what it leaves of the program over the domain
abbrev pub model_above : Program → Certificate → Sub → List Tm → List Atom
model_above p c v d = true_atoms p c v d ++ levelled_model (level_of c.map) (plus_of c.map) (residual_over p c v d)

-- The atoms are a stable model of the program over the domain. They have each that the certificate says is true, and none that it says
-- is false.
pub record IsModelAbove (p : Program) (c : Certificate) (v : Sub) (d : List Tm) (atoms : List Atom) : Type 0 where
  pub stable : Stable (ground_program d p) atoms
  pub all_true : IsTrue (has_all atoms (true_atoms p c v d))
  pub none_false : (a : Atom) → IsTrue (among (false_atoms p c v d) a) → IsTrue (not (among atoms a))
