-- Predicates, clauses by number, and the rules of a predicate.
use Rattle.std.specs.Prelude.{ℕ, zero, suc, ◌+◌, Bool, false, not, List, [], ◌∷◌, ◌++◌, length, filter, slice_get, Option, None, Some, if◌then◌else◌}
use Rattle.std.specs.List.{flat_map}
use Rattle.scasp_syntax.specs.Same.{same_pred}
use Rattle.scasp_syntax.specs.Tm.{items}
use Rattle.scasp_syntax.specs.declared.atom.Atom.{Atom}
use Rattle.scasp_syntax.specs.declared.atom.Pred.{Pred}
use Rattle.scasp_syntax.specs.declared.clause.Clause.{Clause}
use Rattle.scasp_syntax.specs.declared.clause.Item.{Item}
use Rattle.scasp_syntax.specs.declared.clause.Item.TheVariants.{Call, Equal, Differ, Linear}
use Rattle.scasp_syntax.specs.declared.clause.Query.{Query}
use Rattle.scasp_syntax.specs.declared.program.Program.{Program}

-- the predicate of an atom
abbrev pub pred_of : Atom → Pred
pred_of a = record { minus = a.minus; name = a.name; arity = length (items a.args) }

-- the item of this number, counted from 1
abbrev pub numbered : {A : Type 0} → List A → ℕ → Option A
numbered xs zero = None
numbered xs (suc n) = slice_get xs n

-- a rule of the predicate
abbrev pub is_rule_of : Pred → Clause → Bool
is_rule_of p c = heads c.head
  where
    heads : Option Atom → Bool
    heads None = false
    heads (Some a) = same_pred p (pred_of a)

-- the numbers of the rules of the predicate, where the clauses are numbered from n
abbrev pub rules_from : ℕ → List Clause → Pred → List ℕ
rules_from n [] p = []
rules_from n (c ∷ cs) p = if is_rule_of p c then n ∷ rules_from (n + 1) cs p else rules_from (n + 1) cs p

-- the numbers of the rules of the predicate, in order
abbrev pub rules_of : Program → Pred → List ℕ
rules_of program p = rules_from 1 program.clauses p

-- the predicates of the literals of a body, in order
abbrev pub item_preds : Item → List Pred
item_preds (Call l) = pred_of l.atom ∷ []
item_preds (Equal t s) = []
item_preds (Differ t s) = []
item_preds (Linear l) = []

abbrev pub body_preds : List Item → List Pred
body_preds body = flat_map item_preds body

abbrev pub head_preds : Option Atom → List Pred
head_preds None = []
head_preds (Some a) = pred_of a ∷ []

-- the predicates of a clause, the head's first
abbrev pub clause_preds : Clause → List Pred
clause_preds c = head_preds c.head ++ body_preds c.body

-- each predicate at its first place alone
abbrev pub first_occurrences : List Pred → List Pred
first_occurrences [] = []
first_occurrences (p ∷ ps) = p ∷ filter (λ q. not (same_pred p q)) (first_occurrences ps)

-- the predicates that occur, in order of first occurrence: the clauses in order, then the queries
abbrev pub predicates_in : List Clause → List Query → List Pred
predicates_in clauses queries = first_occurrences (flat_map clause_preds clauses ++ flat_map (λ q. body_preds q.body) queries)

abbrev pub predicates : Program → List Pred
predicates program = predicates_in program.clauses program.queries
