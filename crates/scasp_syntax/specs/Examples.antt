-- Small cases of the definitions, computed.
use Rattle.std.specs.Prelude.{◌≡◌, ℕ, Bool, true, false, pos, negsuc, List, [], ◌∷◌, Some, None}
use Rattle.std.proofs.Common.{refl}
use Rattle.scasp_num.specs.declared.linear.Op.TheVariants as op
use Rattle.scasp_num.specs.Linear.{Linear}
use Rattle.scasp_syntax.specs.Constraints.{holds}
use Rattle.scasp_syntax.specs.Denials.{generated_denials}
use Rattle.scasp_syntax.specs.Flat.{flat_body, number_test}
use Rattle.scasp_syntax.specs.Programs.{predicates, rules_of, pred_of}
use Rattle.scasp_syntax.specs.Tm.{Tms, var, app, nil, cons, weight}
use Rattle.scasp_syntax.specs.Values.{Sub, under, raised}
use Rattle.scasp_syntax.specs.declared.atom.Atom.{Atom}
use Rattle.scasp_syntax.specs.declared.clause.Clause.{Clause}
use Rattle.scasp_syntax.specs.declared.clause.Item.{Item}
use Rattle.scasp_syntax.specs.declared.clause.FlatItem.TheVariants as flat
use Rattle.scasp_syntax.specs.declared.clause.Item.TheVariants.{Call}
use Rattle.scasp_syntax.specs.declared.clause.Item.TheVariants as item
use Rattle.scasp_syntax.specs.declared.clause.Query.{Query}
use Rattle.scasp_syntax.specs.declared.con.Con.TheVariants as con
use Rattle.scasp_syntax.specs.declared.program.Program.{Program}
use Rattle.scasp_syntax.specs.declared.term.Term.TheVariants.{Var, App}

-- p(V0) :- not q. :- r, p(V0). p(a). ?- q, s.
abbrev atom : ℕ → Tms → Atom
atom name args = record { minus = false; name = name; args = args }

abbrev call : Bool → Atom → Item
call positive a = Call (record { positive = positive; atom = a })

abbrev p0 : Atom
p0 = atom 2 (cons (var 0) nil)

abbrev rule : Clause
rule = record { head = Some p0; body = call false (atom 3 nil) ∷ []; vars = 1 }

abbrev denial : Clause
denial = record { head = None; body = call true (atom 4 nil) ∷ call true p0 ∷ []; vars = 1 }

abbrev fact : Clause
fact = record { head = Some (atom 2 (cons (app 6 nil) nil)); body = []; vars = 0 }

abbrev query : Query
query = record { body = call true (atom 3 nil) ∷ call true (atom 5 nil) ∷ []; names = [] }

abbrev program : Program
program = record { clauses = rule ∷ denial ∷ fact ∷ []; queries = query ∷ []; abducibles = []; well_formed = refl; choices = refl }

order : predicates program ≡ pred_of p0 ∷ pred_of (atom 3 nil) ∷ pred_of (atom 4 nil) ∷ pred_of (atom 5 nil) ∷ []
order = refl

rules : rules_of program (pred_of p0) ≡ 1 ∷ 3 ∷ []
rules = refl

raising : under (raised 3) (app 2 (cons (var 0) nil)) ≡ app 2 (cons (var 3) nil)
raising = refl

counting : weight (app 2 (cons (var 0) nil)) ≡ 2
counting = refl

-- V0 = a, where V0 is a, and V0 \= a/0
abbrev values : Sub
values x = app 6 nil

equal : holds values (con.Eq (Var 0) (App 6 nil)) ≡ true
equal = refl

shaped : holds values (con.NotShape 0 6 0) ≡ false
shaped = refl

-- 2*V0 - 1 < 0, where what is no number counts as 0
compared : holds values (con.Row (record { coeffs = record { x = 0; c = pos 2 } ∷ []; constant = negsuc 0; op = op.Lt })) ≡ true
compared = refl

-- V0 #> 10, written with V1 as well, before the same and p(V0)
abbrev above_ten : Linear
above_ten = record { coeffs = record { x = 0; c = negsuc 0 } ∷ []; constant = pos 10; op = op.Lt }

abbrev compared_item : Item
compared_item = item.Linear (record { vars = 0 ∷ 1 ∷ []; row = above_ten })

flattened :
    flat_body (compared_item ∷ compared_item ∷ call true p0 ∷ [])
    ≡ number_test 0 ∷ number_test 1 ∷ flat.Test (con.Row above_ten) ∷ flat.Test (con.Row above_ten) ∷ flat.Call (record { positive = true; atom = p0 }) ∷ []
flattened = refl

-- r :- -q. -p(a, b). -p(b, a) :- p(a, b). ?- -q, not -r. Where -q, -p/2 and -r occur, in this order
abbrev negated : ℕ → Tms → Atom
negated name args = record { minus = true; name = name; args = args }

abbrev fact_of : Atom → Clause
fact_of a = record { head = Some a; body = []; vars = 0 }

abbrev ab : Tms
ab = cons (app 6 nil) (cons (app 7 nil) nil)

abbrev ba : Tms
ba = cons (app 7 nil) (cons (app 6 nil) nil)

abbrev with_minus : List Clause
with_minus =
    record { head = Some (atom 4 nil); body = call true (negated 3 nil) ∷ []; vars = 0 } ∷ fact_of (negated 2 ab)
    ∷ record { head = Some (negated 2 ba); body = call true (atom 2 ab) ∷ []; vars = 0 } ∷ []

abbrev asked : Query
asked = record { body = call true (negated 3 nil) ∷ call false (negated 4 nil) ∷ []; names = [] }

-- :- q, -q. :- p(V0, V1), -p(V0, V1). :- r, -r.
abbrev apart : ℕ → Tms → ℕ → Clause
apart name args vars = record { head = None; body = call true (atom name args) ∷ call true (negated name args) ∷ []; vars = vars }

kept_apart : generated_denials with_minus (asked ∷ []) ≡ apart 3 nil 0 ∷ apart 2 (cons (var 0) (cons (var 1) nil)) 2 ∷ apart 4 nil 0 ∷ []
kept_apart = refl

no_minus : generated_denials (rule ∷ denial ∷ fact ∷ []) (query ∷ []) ≡ []
no_minus = refl
