-- The levels and signs of predicates, as a table has them.
use Rattle.std.specs.HashMap.{HashMap, get}
use Rattle.std.specs.Prelude.{ℕ, Bool, true, Option, None, Some}
use Rattle.scasp_syntax.specs.Programs.{pred_of}
use Rattle.scasp_syntax.specs.contracts.atom.PredPartialEq.TheImpl.{eq-value}
use Rattle.scasp_syntax.specs.declared.atom.Atom.{Atom}
use Rattle.scasp_syntax.specs.declared.atom.Pred.{Pred}
use Rattle.scasp_syntax.specs.declared.predicate_map.PredMap.{PredMap}

-- what is found, else level 0 and `+`
abbrev pub entry_or : Pred → Option PredMap → PredMap
entry_or p None = record { pred = p; level = 0; plus = true }
entry_or p (Some m) = m

module _ {S : Type 0} where
  abbrev pub entry_at : HashMap Pred PredMap S → Pred → PredMap
  entry_at m p = entry_or p (get eq-value.it m p)

  -- the level of the atom's predicate
  abbrev pub level_in : HashMap Pred PredMap S → Atom → ℕ
  level_in m a = (entry_at m (pred_of a)).level

  -- whether it has the sign `+`
  abbrev pub plus_in : HashMap Pred PredMap S → Atom → Bool
  plus_in m a = (entry_at m (pred_of a)).plus
