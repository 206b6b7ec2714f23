-- A small case of the definitions, computed.
use Rattle.std.specs.Prelude.{◌≡◌, ℕ, Bool, true, false, [], ◌∷◌, Some, None}
use Rattle.std.proofs.Common.{refl}
use Rattle.scasp_syntax.specs.Tm.{nil}
use Rattle.scasp_syntax.specs.declared.atom.Atom.{Atom}
use Rattle.scasp_syntax.specs.declared.clause.Item.{Item}
use Rattle.scasp_syntax.specs.declared.clause.Item.TheVariants.{Call}
use Rattle.scasp_syntax.specs.declared.program.Program.{Program}
use Rattle.scasp_nmr.specs.Checks.{checks_of}

abbrev atom : ℕ → Atom
atom name = record { minus = false; name = name; args = nil }

abbrev literal : Bool → ℕ → Item
literal positive name = Call (record { positive = positive; atom = atom name })

-- p :- not p. q. :- q. r :- r.
abbrev program : Program
program = record { clauses = record { head = Some (atom 2); body = literal false 2 ∷ []; vars = 0 } ∷ record { head = Some (atom 3); body = []; vars = 0 } ∷ record { head = None; body = literal true 3 ∷ []; vars = 0 } ∷ record { head = Some (atom 4); body = literal true 4 ∷ []; vars = 0 } ∷ []; queries = []; abducibles = []; well_formed = refl; choices = refl }

listed : checks_of program (1 ∷ []) ≡ record { clause = 1; head = true } ∷ record { clause = 3; head = false } ∷ []
listed = refl

denials_alone : checks_of program [] ≡ record { clause = 3; head = false } ∷ []
denials_alone = refl
