-- What rules over numbers stand for at one level.
use Rattle.std.specs.Prelude.{◌≡◌, ℕ, Bool, IsTrue, List, map}
use Rattle.std.specs.List.{flat_map}
use Rattle.scasp_closure.specs.Reading.{atoms_in}
use Rattle.scasp_model.specs.Atoms.{SameAtoms, are_distinct}
use Rattle.scasp_model.specs.Levelled.{read_lower}
use Rattle.scasp_model.specs.declared.program.GroundClause.{GroundClause}
use Rattle.scasp_syntax.specs.declared.atom.Atom.{Atom}
use Rattle.scasp_extend_levels.specs.Numbered.{StandAll, standing_of}
use Rattle.scasp_extend_levels.specs.declared.numbered.NumberedClause.{NumberedClause}
use Rattle.scasp_extend_levels.specs.declared.standings.Standing.{Standing}

-- the rules stand for `clauses` by a table of distinct atoms, whose standings are those at a level with the atoms `below` of lower levels
pub record Scene (st : List Standing) (rules : List NumberedClause) : Type 0 where
  pub level : Atom → ℕ
  pub plus : Atom → Bool
  pub at : ℕ
  pub below : List Atom
  pub table : List Atom
  pub clauses : List GroundClause
  pub distinct : IsTrue (are_distinct table)
  pub stand : StandAll table rules clauses
  pub standings : st ≡ map (standing_of level plus at below) table

module _ {st : List Standing} {rules : List NumberedClause} where
  -- the clauses, with the literals of lower levels read
  abbrev pub read : Scene st rules → List GroundClause
  read s = flat_map (read_lower s.level s.at s.below) s.clauses

  -- the atoms whose numbers are in the set
  abbrev pub inside : Scene st rules → (ℕ → Bool) → List Atom
  inside s set = atoms_in set s.table

  -- the set is of these atoms
  abbrev pub Means : Scene st rules → (ℕ → Bool) → List Atom → Type 0
  Means s set atoms = SameAtoms (inside s set) atoms
