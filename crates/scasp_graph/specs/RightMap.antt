-- The map of a program: levels by dependencies, signs by the parity of negations.
use Rattle.std.specs.Prelude.{◌≡◌, ◌⊎◌, ℕ, ◌+◌, ◌<◌, Bool, true, false, not, ◌||◌, IsTrue, List, [], ◌∷◌, map, if◌then◌else◌}
use Rattle.scasp_syntax.specs.Programs.{predicates}
use Rattle.scasp_syntax.specs.Same.{same_bool, same_pred}
use Rattle.scasp_syntax.specs.declared.atom.Pred.{Pred}
use Rattle.scasp_syntax.specs.declared.predicate_map.PredMap.{PredMap}
use Rattle.scasp_syntax.specs.declared.program.Program.{Program}
use Rattle.scasp_graph.specs.Map.{entry_of}
use Rattle.scasp_graph.specs.Walks.{Walk, Reaches, Depends}

abbrev pub pred_in : PredMap → Pred
pred_in m = m.pred

abbrev pub level_of : List PredMap → Pred → ℕ
level_of entries p = (entry_of entries p).level

abbrev pub plus_of : List PredMap → Pred → Bool
plus_of entries p = (entry_of entries p).plus

-- walks lead from p to q and back: they are in one component
abbrev pub Together : Program → Pred → Pred → Type 0
Together program p q = Reaches (Depends program) p q × Reaches (Depends program) q p

-- q stands before p in the list
abbrev pub comes_before : List Pred → Pred → Pred → Bool
comes_before [] q p = false
comes_before (x ∷ xs) q p = if same_pred p x then false else same_pred q x || comes_before xs q p

-- no predicate of its component occurs earlier in the program
abbrev pub IsFirst : Program → Pred → Type 0
IsFirst program p = (q : Pred) → IsTrue (comes_before (predicates program) q p) → ¬ Together program q p

-- a predicate on which the component of p depends: one edge leads there from a predicate of that component
pub record IsBelow (program : Program) (p q : Pred) : Type 0 where
  pub from : Pred
  pub together : Together program p from
  pub negated : Bool
  pub edge : Depends program from negated q

-- The map has the program's predicates in order of first occurrence. An edge stays in its component and on its level,
-- or leads to a lower level. A level is 0 or one more than that of a predicate on which the component depends. In a
-- component without an odd closed walk the first predicate has `+`, and a negated edge changes the sign and no other
-- does; in one with such a walk all have `+`.
pub record IsRightMap (program : Program) (entries : List PredMap) : Type 0 where
  pub listed : map pred_in entries ≡ predicates program
  pub falls : (p q : Pred) (negated : Bool) → Depends program p negated q → (Reaches (Depends program) q p × (level_of entries q ≡ level_of entries p)) ⊎ (level_of entries q < level_of entries p)
  pub least : (p : Pred) → (level_of entries p ≡ 0) ⊎ ((q : Pred) × (IsBelow program p q × (level_of entries p ≡ level_of entries q + 1)))
  pub first : (p : Pred) → IsFirst program p → plus_of entries p ≡ true
  pub signs : (p q : Pred) (negated : Bool) → Depends program p negated q → Reaches (Depends program) q p → ¬ Walk (Depends program) p p true → plus_of entries q ≡ not (same_bool negated (plus_of entries p))
  pub odd : (p : Pred) → Walk (Depends program) p p true → plus_of entries p ≡ true
