-- What the tables of tests stand for.
use Rattle.std.specs.Prelude.{ℕ, Bool, true, false, List, [], ◌∷◌, Option, None, Some, map, if◌then◌else◌}
use Rattle.scasp_syntax.specs.Tm.{Tms, app, nil, cons}
use Rattle.scasp_syntax.specs.declared.atom.Atom.{Atom}
use Rattle.scasp_syntax.specs.declared.atom.Lit.{Lit}
use Rattle.scasp_syntax.specs.declared.atom.Pred.{Pred}
use Rattle.scasp_syntax.specs.declared.clause.Clause.{Clause}
use Rattle.scasp_syntax.specs.declared.clause.Item.{Item}
use Rattle.scasp_syntax.specs.declared.clause.Item.TheVariants.{Call}
use Rattle.scasp_syntax.specs.declared.clause.Query.{Query}
use Rattle.scasp_syntax.specs.declared.predicate_map.PredMap.{PredMap}
use Rattle.scasp_test_samples.specs.declared.names.Name.{Name}

-- no argument, or the one constant c
abbrev pub args_of : Bool → Tms
args_of false = nil
args_of true = cons (app 9 nil) nil

abbrev pub atom_of : Name → Atom
atom_of n = record { minus = false; name = n.place; args = args_of n.has_argument }

abbrev pub pred_of_name : Name → Pred
pred_of_name n = record { minus = false; name = n.place; arity = if n.has_argument then 1 else 0 }

abbrev pub literal_of : Bool × Name → Lit
literal_of l = record { positive = l.0; atom = atom_of l.1 }

abbrev pub head_of : Option Name → Option Atom
head_of None = None
head_of (Some n) = Some (atom_of n)

abbrev pub body_of : List (Bool × Name) → List Item
body_of literals = map (λ l. Call (literal_of l)) literals

-- a rule, or a denial where there is no head
abbrev pub clause_of : Option Name → List (Bool × Name) → Clause
clause_of head literals = record { head = head_of head; body = body_of literals; vars = 0 }

abbrev pub query_of : List (Bool × Name) → Query
query_of literals = record { body = body_of literals; names = [] }

-- an entry of a map: the predicate, its level, and whether its sign is +
abbrev pub entry_of : Name × ℕ × Bool → PredMap
entry_of e = record { pred = pred_of_name e.0; level = e.1; plus = e.2 }
