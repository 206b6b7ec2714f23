-- When a program keeps levels and signs, rule by rule and literal by literal.
use Rattle.std.specs.Prelude.{◌≡◌, ◌≢◌, ℕ, ◌≤◌, Bool, true, false, List, None, Some, Contains}
use Rattle.scasp_syntax.specs.Programs.{pred_of, numbered}
use Rattle.scasp_syntax.specs.declared.atom.Atom.{Atom}
use Rattle.scasp_syntax.specs.declared.atom.Lit.{Lit}
use Rattle.scasp_syntax.specs.declared.atom.Pred.{Pred}
use Rattle.scasp_syntax.specs.declared.clause.Clause.{Clause}
use Rattle.scasp_syntax.specs.declared.clause.Item.TheVariants.{Call}
use Rattle.scasp_syntax.specs.declared.predicate_map.PredMap.{PredMap}
use Rattle.scasp_syntax.specs.declared.program.Program.{Program}
use Rattle.scasp_graph.specs.Map.{entry_of}

-- the level of a predicate, which is 0 where the map lacks it
abbrev pub level_of : List PredMap → Pred → ℕ
level_of map p = (entry_of map p).level

-- whether its sign is `+`, which it is where the map lacks it
abbrev pub is_plus : List PredMap → Pred → Bool
is_plus map p = (entry_of map p).plus

-- what a rule for p asks of a literal: its predicate has no higher level than p; one of the same level has the sign of p where
-- the literal is positive, and the other sign where it is negated
pub record KeepsLiteral (map : List PredMap) (p : Pred) (l : Lit) : Type 0 where
  pub no_higher : level_of map (pred_of l.atom) ≤ level_of map p
  pub same_sign : level_of map (pred_of l.atom) ≡ level_of map p → l.positive ≡ true → is_plus map (pred_of l.atom) ≡ is_plus map p
  pub other_sign : level_of map (pred_of l.atom) ≡ level_of map p → l.positive ≡ false → is_plus map (pred_of l.atom) ≢ is_plus map p

-- every denial is covered, and a rule that is not covered keeps the map at each literal of its body
pub record KeepsMap (program : Program) (covered : List ℕ) (map : List PredMap) : Type 0 where
  pub denials : (n : ℕ) (c : Clause) → numbered program.clauses n ≡ Some c → c.head ≡ None → Contains covered n
  pub rules : (n : ℕ) (c : Clause) (a : Atom) (l : Lit)
      → numbered program.clauses n ≡ Some c → c.head ≡ Some a → ¬ Contains covered n → Contains c.body (Call l)
      → KeepsLiteral map (pred_of a) l
