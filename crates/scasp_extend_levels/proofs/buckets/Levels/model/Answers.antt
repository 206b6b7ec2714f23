use Rattle.std.proofs.Common.{None, refl}
use Rattle.std.specs.BTreeMap.{get}
use Rattle.std.specs.Ordering.{nat_cmp}
use Rattle.scasp_sound.specs.MapLevels.{level_of, plus_of}
use Rattle.scasp_syntax.specs.declared.atom.Pred.{Pred}
use Rattle.scasp_map.specs.Entries.{entry_at}
use Rattle.scasp_extend_levels.proofs.LevelLemmas.{begins, empty-get, ends, step-by-map, taken}
use Rattle.scasp_extend_levels.proofs.buckets.Levels.model.Goals as goal

pub loop-lowest-init : goal.loop-lowest-init
loop-lowest-init c =
    λ map g sorted. begins (level_of map) (plus_of map) g (get nat_cmp c.args.self.levels) c.new-model.result c.new-model.ensures sorted.1

pub loop-lowest-preserved : goal.loop-lowest-preserved
loop-lowest-preserved c =
    λ map g sorted.
    taken (level_of map) (plus_of map) g (get nat_cmp c.loop-lowest.levels) (get nat_cmp c.pop_first.new.self) c.in-Some.lowest.0 c.in-Some.lowest.1
    c.loop-lowest.model c.add_level.new.model (c.loop-lowest.invariant map g sorted) c.in-Some.ensures.value (λ q h. c.in-Some.ensures.least q h)
    (λ q. c.in-Some.ensures.updates.0 q)
    (step-by-map (λ (p : Pred). entry_at c.args.self.entries p) map sorted.0 c.in-Some.lowest.1 c.in-Some.lowest.0 c.loop-lowest.model c.add_level.new.model c.in_ok-add_level.ensures)

pub returns : goal.returns
returns c =
    λ map g sorted.
    ends (level_of map) (plus_of map) g (get nat_cmp c.loop-lowest.levels) c.loop-lowest.model (c.loop-lowest.invariant map g sorted)
    (empty-get c.loop-lowest.levels None (λ h. c.in_default.ensures.variant.1 h) refl)
