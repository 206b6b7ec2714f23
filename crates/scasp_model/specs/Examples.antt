-- Small cases of the definitions, computed.
use Rattle.std.specs.Prelude.{◌≡◌, ℕ, Bool, true, false, List, [], ◌∷◌, Option, Some, None}
use Rattle.std.proofs.Common.{refl}
use Rattle.scasp_syntax.specs.Tm.{Tm, Tms, var, app, nil, cons}
use Rattle.scasp_syntax.specs.declared.atom.Atom.{Atom}
use Rattle.scasp_syntax.specs.declared.atom.Lit.{Lit}
use Rattle.scasp_syntax.specs.declared.clause.Clause.{Clause}
use Rattle.scasp_syntax.specs.declared.clause.Item.TheVariants.{Call, Differ}
use Rattle.scasp_syntax.specs.declared.term.Term.TheVariants.{Var}
use Rattle.scasp_model.specs.Grounding.{instances, is_domain}
use Rattle.scasp_model.specs.Least.{least_model}
use Rattle.scasp_model.specs.Reduct.{reduct}
use Rattle.scasp_model.specs.Residual.{residual}
use Rattle.scasp_model.specs.Stable.{has_violation}
use Rattle.scasp_model.specs.declared.program.GroundClause.{GroundClause}

abbrev atom : ℕ → Tms → Atom
atom name args = record { minus = false; name = name; args = args }

abbrev pub lit : Bool → Atom → Lit
lit positive a = record { positive = positive; atom = a }

abbrev pub rule : Option Atom → List Lit → GroundClause
rule head body = record { head = head; body = body }

abbrev a : Tm
a = app 6 nil

abbrev b : Tm
b = app 7 nil

abbrev two : Tm → Tm → Tms
two t s = cons t (cons s nil)

-- p(V0, V1) :- not q(V1), V0 \= V1. Over a and b.
abbrev differing : Clause
differing = record { head = Some (atom 2 (two (var 0) (var 1))); body = Call (lit false (atom 3 (cons (var 1) nil))) ∷ Differ (Var 0) (Var 1) ∷ []; vars = 2 }

grounded : instances (a ∷ b ∷ []) differing ≡ rule (Some (atom 2 (two a b))) (lit false (atom 3 (cons b nil)) ∷ []) ∷ rule (Some (atom 2 (two b a))) (lit false (atom 3 (cons a nil)) ∷ []) ∷ []
grounded = refl

-- a clause without variables has one instance over no terms, and one with variables has none
abbrev closed : Clause
closed = record { head = None; body = Call (lit true (atom 3 nil)) ∷ []; vars = 0 }

once : instances [] closed ≡ rule None (lit true (atom 3 nil) ∷ []) ∷ []
once = refl

never : instances [] differing ≡ []
never = refl

domain : is_domain (a ∷ b ∷ []) ≡ true
domain = refl

no_domain : is_domain (a ∷ b ∷ a ∷ []) ≡ false
no_domain = refl

abbrev pub p : Atom
p = atom 2 nil

abbrev pub q : Atom
q = atom 3 nil

abbrev pub r : Atom
r = atom 4 nil

abbrev pub s : Atom
s = atom 5 nil

-- p. r :- p, not q, s. r :- q. s :- not p. :- r, not q, p. Where p is true and q false.
abbrev before : List GroundClause
before =
    rule (Some p) [] ∷ rule (Some r) (lit true p ∷ lit false q ∷ lit true s ∷ []) ∷ rule (Some r) (lit true q ∷ [])
    ∷ rule (Some s) (lit false p ∷ []) ∷ rule None (lit true r ∷ lit false q ∷ lit true p ∷ []) ∷ []

-- r :- s. :- r.
left : residual (p ∷ []) (q ∷ []) before ≡ rule (Some r) (lit true s ∷ []) ∷ rule None (lit true r ∷ []) ∷ []
left = refl

-- by p and r: p. r :- p, s. r :- q.
reduced : reduct (p ∷ r ∷ []) before ≡ record { head = p; body = [] } ∷ record { head = r; body = p ∷ s ∷ [] } ∷ record { head = r; body = q ∷ [] } ∷ []
reduced = refl

-- by nothing: p. r :- p, s. r :- q. s.
in_rounds : least_model (reduct [] before) ≡ p ∷ s ∷ r ∷ []
in_rounds = refl

violated : has_violation (p ∷ r ∷ []) before ≡ true
violated = refl
