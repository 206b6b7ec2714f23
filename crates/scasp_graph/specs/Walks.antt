-- How predicates depend on one another, and walks along these dependencies.
use Rattle.std.specs.Prelude.{Bool, false, not, List, [], ◌∷◌, Option, None, Some}
use Rattle.std.specs.List.{Contains, flat_map}
use Rattle.scasp_syntax.specs.Programs.{pred_of}
use Rattle.scasp_syntax.specs.Same.{same_bool}
use Rattle.scasp_syntax.specs.declared.atom.Atom.{Atom}
use Rattle.scasp_syntax.specs.declared.atom.Pred.{Pred}
use Rattle.scasp_syntax.specs.declared.clause.Clause.{Clause}
use Rattle.scasp_syntax.specs.declared.clause.Item.{Item}
use Rattle.scasp_syntax.specs.declared.clause.Item.TheVariants.{Call, Equal, Differ, Linear}
use Rattle.scasp_syntax.specs.declared.program.Program.{Program}

-- the predicate of a rule's head, the predicate of a literal of its body, and whether that literal is negated
pub record Dependency : Type 0 where
  pub from : Pred
  pub to : Pred
  pub negated : Bool

abbrev pub item_dependencies : Pred → Item → List Dependency
item_dependencies p (Call l) = record { from = p; to = pred_of l.atom; negated = not l.positive } ∷ []
item_dependencies p (Equal t s) = []
item_dependencies p (Differ t s) = []
item_dependencies p (Linear l) = []

abbrev pub body_dependencies : Option Atom → List Item → List Dependency
body_dependencies None body = []
body_dependencies (Some a) body = flat_map (item_dependencies (pred_of a)) body

abbrev pub clause_dependencies : Clause → List Dependency
clause_dependencies c = body_dependencies c.head c.body

-- the literals of all rules, in order; the bodies of denials make none
abbrev pub dependencies : Program → List Dependency
dependencies program = flat_map clause_dependencies program.clauses

-- an edge from p to q: some rule of p has a literal of q, which is negated or not
abbrev pub Depends : Program → Pred → Bool → Pred → Type 0
Depends program p negated q = Contains (dependencies program) (record { from = p; to = q; negated = negated })

-- a walk along edges, and whether an odd number of them is negated
pub data Walk {N : Type 0} (Edge : N → Bool → N → Type 0) : N → N → Bool → Type 0 where
  stays : (p : N) → Walk Edge p p false
  goes : (p q r : N) (b c : Bool) → Edge p b q → Walk Edge q r c → Walk Edge p r (not (same_bool b c))

-- some walk leads from p to q
abbrev pub Reaches : {N : Type 0} → (N → Bool → N → Type 0) → N → N → Type 0
Reaches Edge p q = (b : Bool) × Walk Edge p q b
