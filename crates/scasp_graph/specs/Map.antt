-- Levels and signs of predicates, and when a program keeps them.
use Rattle.std.specs.Prelude.{◌≡◌, ℕ, ◌+◌, Bool, true, false, ◌&&◌, ◌||◌, nat_eq, nat_lt, List, [], ◌∷◌, Option, None, Some, is_some, if◌then◌else◌}
use Rattle.std.specs.List.{list_all, list_any}
use Rattle.scasp_syntax.specs.Programs.{pred_of}
use Rattle.scasp_syntax.specs.Same.{same_bool, same_pred}
use Rattle.scasp_syntax.specs.declared.atom.Atom.{Atom}
use Rattle.scasp_syntax.specs.declared.atom.Pred.{Pred}
use Rattle.scasp_syntax.specs.declared.clause.Clause.{Clause}
use Rattle.scasp_syntax.specs.declared.clause.Item.{Item}
use Rattle.scasp_syntax.specs.declared.clause.Item.TheVariants.{Call, Equal, Differ, Linear}
use Rattle.scasp_syntax.specs.declared.predicate_map.PredMap.{PredMap}
use Rattle.scasp_syntax.specs.declared.program.Program.{Program}

-- the first entry of the predicate; one that the map lacks has level 0 and `+`
abbrev pub entry_of : List PredMap → Pred → PredMap
entry_of [] p = record { pred = p; level = 0; plus = true }
entry_of (m ∷ ms) p = if same_pred p m.pred then m else entry_of ms p

-- a lower level, or the same level with the same sign where the literal is positive, with the other where it is not
abbrev pub keeps_entry : PredMap → Bool → PredMap → Bool
keeps_entry head positive body =
    nat_lt body.level head.level || (nat_eq body.level head.level && same_bool positive (same_bool head.plus body.plus))

-- whether the item of a rule for this predicate keeps the map; only literals can break it
abbrev pub keeps_item : List PredMap → Pred → Item → Bool
keeps_item map p (Call l) = keeps_entry (entry_of map p) l.positive (entry_of map (pred_of l.atom))
keeps_item map p (Equal t s) = true
keeps_item map p (Differ t s) = true
keeps_item map p (Linear l) = true

-- whether the body keeps the map below this head; a denial has no head and never does
abbrev pub keeps_below : List PredMap → Option Atom → List Item → Bool
keeps_below map None body = false
keeps_below map (Some a) body = list_all (keeps_item map (pred_of a)) body

-- the clause of this number is covered, or it is a rule whose body keeps the map
abbrev pub keeps : List ℕ → List PredMap → ℕ → Clause → Bool
keeps covered map number c = list_any (nat_eq number) covered || keeps_below map c.head c.body

-- the numbers of the clauses that break the map, where the clauses are numbered from n
abbrev pub faults_from : List ℕ → List PredMap → ℕ → List Clause → List ℕ
faults_from covered map n [] = []
faults_from covered map n (c ∷ cs) =
    if keeps covered map n c then faults_from covered map (n + 1) cs else n ∷ faults_from covered map (n + 1) cs

-- the numbers of the clauses that break the map, in order
abbrev pub map_faults : Program → List ℕ → List PredMap → List ℕ
map_faults program covered map = faults_from covered map 1 program.clauses

-- no clause breaks the map
abbrev pub MapHolds : Program → List ℕ → List PredMap → Type 0
MapHolds program covered map = map_faults program covered map ≡ []

-- the item is no negated literal
abbrev pub is_positive_item : Item → Bool
is_positive_item (Call l) = l.positive
is_positive_item (Equal t s) = true
is_positive_item (Differ t s) = true
is_positive_item (Linear l) = true

-- the clause is a rule without negated literals
abbrev pub is_positive_rule : Clause → Bool
is_positive_rule c = is_some c.head && list_all is_positive_item c.body
