-- A small program, its choice atoms and its translation, computed.
use Rattle.std.specs.Prelude.{◌≡◌, ℕ, Bool, true, false, List, [], ◌∷◌, ◌++◌, codes, Some}
use Rattle.std.proofs.Common.{refl}
use Rattle.scasp_model.specs.declared.program.GroundClause.{GroundClause}
use Rattle.scasp_name.specs.Texts.{list_names}
use Rattle.scasp_syntax.specs.Tm.{Tm, var, app, nil, cons}
use Rattle.scasp_syntax.specs.declared.atom.Atom.{Atom}
use Rattle.scasp_syntax.specs.declared.atom.Lit.{Lit}
use Rattle.scasp_syntax.specs.declared.clause.Item.TheVariants.{Call}
use Rattle.scasp_syntax.specs.declared.program.Program.{Program}
use Rattle.scasp_abduce.specs.Translation.{translation}
use Rattle.scasp_law_abduction.specs.Choices.{assuming, choices_of, ground_translation, those_in, with_denied, without_new}

abbrev table : List (List ℕ)
table = list_names ++ codes "p" ∷ codes "q" ∷ codes "a" ∷ codes "b" ∷ []

abbrev atom : ℕ → Tm → Atom
atom name t = record { minus = false; name = name; args = cons t nil }

abbrev a : Tm
a = app 4 nil

abbrev b : Tm
b = app 5 nil

abbrev lit : Bool → Atom → Lit
lit positive x = record { positive = positive; atom = x }

-- #abducible p(V0). q(V0) :- p(V0).
abbrev program : Program
program = record {
  clauses = record { head = Some (atom 3 (var 0)); body = Call (lit true (atom 2 (var 0))) ∷ []; vars = 1 } ∷ [];
  queries = [];
  abducibles = record { minus = false; name = 2; arity = 1 } ∷ [];
  well_formed = refl;
  choices = refl;
}

abbrev domain : List Tm
domain = a ∷ b ∷ []

its_choices : choices_of domain program ≡ atom 2 a ∷ atom 2 b ∷ []
its_choices = refl

abbrev rule : Atom → List Lit → GroundClause
rule x body = record { head = Some x; body = body }

abbrev written : List GroundClause
written = rule (atom 3 a) (lit true (atom 2 a) ∷ []) ∷ rule (atom 3 b) (lit true (atom 2 b) ∷ []) ∷ []

assumed : assuming domain program (those_in (atom 2 a ∷ atom 3 a ∷ atom 6 b ∷ []) (choices_of domain program)) ≡ rule (atom 2 a) [] ∷ written
assumed = refl

-- 'no p' is the name 6
chosen : ground_translation domain table program
    ≡ written ++ rule (atom 2 a) (lit false (atom 6 a) ∷ []) ∷ rule (atom 2 b) (lit false (atom 6 b) ∷ [])
    ∷ rule (atom 6 a) (lit false (atom 2 a) ∷ []) ∷ rule (atom 6 b) (lit false (atom 2 b) ∷ []) ∷ []
chosen = refl

fewer : without_new (translation table program).choices (atom 2 a ∷ atom 3 a ∷ atom 6 b ∷ []) ≡ atom 2 a ∷ atom 3 a ∷ []
fewer = refl

more : with_denied domain (translation table program).choices (atom 2 a ∷ atom 3 a ∷ []) ≡ atom 2 a ∷ atom 3 a ∷ atom 6 b ∷ []
more = refl
