-- Small programs, translated.
use Rattle.std.specs.Prelude.{◌≡◌, ℕ, Bool, true, false, List, [], ◌∷◌, ◌++◌, codes, Some}
use Rattle.std.proofs.Common.{refl}
use Rattle.scasp_name.specs.Texts.{list_names}
use Rattle.scasp_syntax.specs.Tm.{Tms, var, nil, cons}
use Rattle.scasp_syntax.specs.declared.atom.Atom.{Atom}
use Rattle.scasp_syntax.specs.declared.atom.Pred.{Pred}
use Rattle.scasp_syntax.specs.declared.clause.Clause.{Clause}
use Rattle.scasp_syntax.specs.declared.clause.Item.{Item}
use Rattle.scasp_syntax.specs.declared.clause.Item.TheVariants.{Call}
use Rattle.scasp_syntax.specs.declared.clause.Query.{Query}
use Rattle.scasp_abduce.specs.Translation.{translated}

abbrev atom : ℕ → Tms → Atom
atom name args = record { minus = false; name = name; args = args }

abbrev call : Bool → Atom → Item
call positive a = Call (record { positive = positive; atom = a })

abbrev rule : Atom → List Item → Clause
rule a body = record { head = Some a; body = body; vars = 0 }

abbrev asks : Atom → Query
asks a = record { body = call true a ∷ []; names = [] }

abbrev pred : ℕ → ℕ → Pred
pred name arity = record { minus = false; name = name; arity = arity }

-- #abducible p. q :- p. ?- q.
abbrev table : List (List ℕ)
table = list_names ++ codes "p" ∷ codes "q" ∷ []

abbrev clauses : List Clause
clauses = rule (atom 3 nil) (call true (atom 2 nil) ∷ []) ∷ []

behind : (translated table clauses (asks (atom 3 nil) ∷ []) (pred 2 0 ∷ [])).clauses ≡ clauses ++ rule (atom 2 nil) (call false (atom 4 nil) ∷ []) ∷ rule (atom 4 nil) (call false (atom 2 nil) ∷ []) ∷ []
behind = refl

named_last : (translated table clauses (asks (atom 3 nil) ∷ []) (pred 2 0 ∷ [])).names ≡ table ++ codes "no p" ∷ []
named_last = refl

-- #abducible p. q :- p, 'no p'.
abbrev fuller : List (List ℕ)
fuller = table ++ codes "no p" ∷ []

abbrev both : List Clause
both = rule (atom 3 nil) (call true (atom 2 nil) ∷ call true (atom 4 nil) ∷ []) ∷ []

twice : (translated fuller both [] (pred 2 0 ∷ [])).names ≡ fuller ++ codes "no no p" ∷ []
twice = refl

-- the table has 'no p', but the program has it not
unused : (translated fuller clauses [] (pred 2 0 ∷ [])).names ≡ fuller
unused = refl

-- #abducible p. #abducible p(X).
arities : (translated table [] [] (pred 2 0 ∷ pred 2 1 ∷ [])).clauses
    ≡ rule (atom 2 nil) (call false (atom 4 nil) ∷ []) ∷ rule (atom 4 nil) (call false (atom 2 nil) ∷ [])
    ∷ record { head = Some (atom 2 (cons (var 0) nil)); body = call false (atom 5 (cons (var 0) nil)) ∷ []; vars = 1 }
    ∷ record { head = Some (atom 5 (cons (var 0) nil)); body = call false (atom 2 (cons (var 0) nil)) ∷ []; vars = 1 } ∷ []
arities = refl

their_names : (translated table [] [] (pred 2 0 ∷ pred 2 1 ∷ [])).names ≡ table ++ codes "no p" ∷ codes "no no p" ∷ []
their_names = refl

-- a name that the table lacks is not given to another
beyond : (translated list_names (rule (atom 2 nil) [] ∷ []) [] (pred 2 0 ∷ [])).names ≡ list_names ++ codes "no " ∷ codes "no no " ∷ []
beyond = refl
