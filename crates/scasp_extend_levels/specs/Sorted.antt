-- Ground rules by the levels of their heads, as a table has them.
use Rattle.std.specs.BTreeMap.{get}
use Rattle.std.specs.Ordering.{nat_cmp}
use Rattle.std.specs.Prelude.{◌≡◌, ℕ, nat_eq, List, [], Option, None, Some}
use Rattle.scasp_graph.specs.Map.{entry_of}
use Rattle.scasp_model.specs.Programs.{rules_for}
use Rattle.scasp_model.specs.declared.program.GroundClause.{GroundClause}
use Rattle.scasp_sound.specs.MapLevels.{level_of}
use Rattle.scasp_syntax.specs.declared.atom.Pred.{Pred}
use Rattle.scasp_syntax.specs.declared.predicate_map.PredMap.{PredMap}
use Rattle.scasp_map.specs.Entries.{entry_at}
use Rattle.scasp_extend_levels.specs.Numbered.{StandAll}
use Rattle.scasp_extend_levels.specs.declared.buckets.Levels.{Levels}
use Rattle.scasp_extend_levels.specs.declared.numbered.Level.{Level}

-- the rules of a level stand for these; there are none where it is not there
abbrev pub StandIn : Option Level → List GroundClause → Type 0
StandIn None cs = cs ≡ []
StandIn (Some l) cs = StandAll l.table l.rules cs

-- the entries are those of the map, and the rules of each level stand for those of the clauses that have heads of this level
abbrev pub IsSorted : List PredMap → Levels → List GroundClause → Type 0
IsSorted map l g =
    ((p : Pred) → entry_at l.entries p ≡ entry_of map p)
    × ((k : ℕ) → StandIn (get nat_cmp l.levels k) (rules_for (λ a. nat_eq (level_of map a) k) g))
