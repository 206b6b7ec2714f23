-- A small case of the definitions, computed.
use Rattle.std.specs.Prelude.{◌≡◌, ℕ, Bool, true, false, List, [], ◌∷◌, Some, None, map}
use Rattle.std.proofs.Common.{refl}
use Rattle.scasp_syntax.specs.Programs.{pred_of}
use Rattle.scasp_syntax.specs.Tm.{nil}
use Rattle.scasp_syntax.specs.declared.atom.Atom.{Atom}
use Rattle.scasp_syntax.specs.declared.atom.Lit.{Lit}
use Rattle.scasp_syntax.specs.declared.clause.Clause.{Clause}
use Rattle.scasp_syntax.specs.declared.clause.FlatItem.TheVariants as flat
use Rattle.scasp_syntax.specs.declared.clause.Item.TheVariants.{Call}
use Rattle.scasp_syntax.specs.declared.clause.Query.{Query}
use Rattle.scasp_syntax.specs.declared.program.Program.{Program}
use Rattle.scasp_dual.specs.Plans.{plans}
use Rattle.scasp_dual.specs.declared.plans.Plan.{Plan}
use Rattle.scasp_dual.specs.declared.plans.RulePlan.{RulePlan}

abbrev atom : ℕ → Atom
atom name = record { minus = false; name = name; args = nil }

abbrev literal : Bool → ℕ → Lit
literal positive name = record { positive = positive; atom = atom name }

abbrev rule : ℕ → List Lit → Clause
rule head body = record { head = Some (atom head); body = map Call body; vars = 0 }

abbrev denial : Clause
denial = record { head = None; body = Call (literal true 5) ∷ []; vars = 0 }

abbrev query : Query
query = record { body = Call (literal true 6) ∷ []; names = [] }

-- p :- not q, x. q :- not x. x :- p. :- r. p. ?- s.
abbrev program : Program
program = record { clauses = rule 2 (literal false 3 ∷ literal true 4 ∷ []) ∷ rule 3 (literal false 4 ∷ []) ∷ rule 4 (literal true 2 ∷ []) ∷ denial ∷ rule 2 [] ∷ []; queries = query ∷ []; abducibles = []; well_formed = refl; choices = refl }

abbrev planned : ℕ → List RulePlan → Plan
planned name rules = record { pred = pred_of (atom name); rules = rules }

all : plans program ≡ planned 2 (record { rule = 1; body = flat.Call (literal false 3) ∷ flat.Call (literal true 4) ∷ [] } ∷ record { rule = 5; body = [] } ∷ []) ∷ planned 3 (record { rule = 2; body = flat.Call (literal false 4) ∷ [] } ∷ []) ∷ planned 4 (record { rule = 3; body = flat.Call (literal true 2) ∷ [] } ∷ []) ∷ planned 5 [] ∷ planned 6 [] ∷ []
all = refl
