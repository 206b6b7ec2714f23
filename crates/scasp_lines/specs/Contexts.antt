-- The context of a line: the given constraints, and then what opened on the way to it.
use Rattle.std.specs.Prelude.{ℕ, IsTrue, List, [], ◌∷◌, ◌++◌}
use Rattle.std.specs.List.{Contains, list_any}
use Rattle.scasp_syntax.specs.Same.{same_tm}
use Rattle.scasp_syntax.specs.Tm.{Tm}
use Rattle.scasp_syntax.specs.Values.{Sub}
use Rattle.scasp_syntax.specs.declared.con.Con.{Con}
use Rattle.scasp_syntax.specs.declared.term.Term.TheVariants.{Var, App}
use Rattle.scasp_unify.specs.Negations.{new_parts}
use Rattle.scasp_lines.specs.Opened.{Opened, ranges, shaped, assumed}
use Rattle.scasp_syntax.specs.declared.con.Con.TheVariants as con

-- the constraints that an entry brings
abbrev pub constraints_of : Opened → List Con
constraints_of (ranges x) = []
constraints_of (shaped x f k n) = con.Eq (Var x) (App f (new_parts k n)) ∷ []
constraints_of (assumed c) = c ∷ []

-- the given constraints, and then what opened, the outermost first
abbrev pub context : List Con → List Opened → List Con
context given [] = given
context given (o ∷ os) = context given os ++ constraints_of o

-- the clause variables among what opened have their values in the domain
abbrev pub AreInDomain : List Tm → Sub → List Opened → Type 0
AreInDomain d v os = (x : ℕ) → Contains os (ranges x) → IsTrue (list_any (same_tm (v x)) d)
