use Rattle.std.proofs.Common.{List}
use Rattle.std.specs.BTreeMap.{btree_map_len, get}
use Rattle.std.specs.Ordering.{nat_cmp}
use Rattle.scasp_model.specs.declared.program.GroundClause.{GroundClause}
use Rattle.scasp_sound.specs.MapLevels.{level_of, plus_of}
use Rattle.scasp_syntax.specs.declared.predicate_map.PredMap.{PredMap}
use Rattle.scasp_extend_levels.specs.Sorted.{IsSorted}
use Rattle.scasp_extend_levels.proofs.LevelLemmas.{Reached}
use Rattle.scasp_extend_levels.proofs.buckets.Levels.model.Given as goal

abbrev pub invariant-loop-lowest : goal.invariant-loop-lowest
invariant-loop-lowest l =
    (map : List PredMap) (g : List GroundClause) → IsSorted map l.fn.self g → Reached (level_of map) (plus_of map) g l.model (get nat_cmp l.levels)

abbrev pub decreases-loop-lowest : goal.decreases-loop-lowest
decreases-loop-lowest l = btree_map_len l.levels
