-- The levels and signs that a map gives to atoms, and the clauses of which nothing is left.
use Rattle.std.specs.Prelude.{◌≡◌, ℕ, Bool, IsTrue, nat_eq, List, [], map, Some}
use Rattle.std.specs.List.{list_any}
use Rattle.scasp_syntax.specs.Programs.{numbered, pred_of}
use Rattle.scasp_syntax.specs.Tm.{Tm}
use Rattle.scasp_syntax.specs.declared.atom.Atom.{Atom}
use Rattle.scasp_syntax.specs.declared.clause.Clause.{Clause}
use Rattle.scasp_syntax.specs.declared.predicate_map.PredMap.{PredMap}
use Rattle.scasp_syntax.specs.declared.program.Program.{Program}
use Rattle.scasp_cert.specs.Certificate.{Certificate}
use Rattle.scasp_graph.specs.Map.{entry_of}
use Rattle.scasp_model.specs.Grounding.{instances}
use Rattle.scasp_model.specs.Residual.{residual}

-- the level of the atom's predicate
abbrev pub level_of : List PredMap → Atom → ℕ
level_of entries a = (entry_of entries (pred_of a)).level

-- whether the atom's predicate has the sign `+`
abbrev pub plus_of : List PredMap → Atom → Bool
plus_of entries a = (entry_of entries (pred_of a)).plus

-- the clauses of the checks
abbrev pub covered : Certificate → List ℕ
covered c = map (λ k. k.0) c.checks

-- over the domain d the atoms t and f leave nothing of the clauses of these numbers
abbrev pub NoneLeft : Program → List ℕ → List Tm → List Atom → List Atom → Type 0
NoneLeft p numbers d t f =
    (number : ℕ) (c : Clause) → IsTrue (list_any (nat_eq number) numbers) → numbered p.clauses number ≡ Some c → residual t f (instances d c) ≡ []
