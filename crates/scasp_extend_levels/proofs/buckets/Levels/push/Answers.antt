use Rattle.std.proofs.Common.{nat_eq, Option, ap}
use Rattle.std.specs.BTreeMap.{get}
use Rattle.std.specs.Ordering.{nat_cmp}
use Rattle.scasp_sound.specs.MapLevels.{level_of}
use Rattle.scasp_syntax.specs.declared.atom.Atom.{Atom}
use Rattle.scasp_syntax.specs.declared.atom.Pred.{Pred}
use Rattle.scasp_map.specs.Entries.{entry_at}
use Rattle.scasp_extend_levels.proofs.BucketLemmas.{sorted-more, sorted-same}
use Rattle.scasp_extend_levels.proofs.buckets.Levels.push.Goals as goal

pub returns-in_ok-put_at-in-Some : goal.returns-in_ok-put_at-in-Some
returns-in_ok-put_at-in-Some c =
    λ map g sorted. (
      sorted.0,
      sorted-more map (λ (p : Pred). entry_at c.args.self.now.entries p) (get nat_cmp c.args.self.now.levels) (get nat_cmp c.put_at.new.levels) c.args.clause.now
          c.in-Some.head c.args.clause.now.body c.level_in-level.result g (ap (λ (o : Option Atom). record { head = o; body = c.args.clause.now.body }) c.in-Some.is) c.level_in-level.ensures sorted.0 c.in_ok-put_at-in-Some.ensures sorted.1,
    )

pub returns-in-None : goal.returns-in-None
returns-in-None c =
    λ map g sorted. (
      sorted.0,
      λ k. sorted-same (λ a. nat_eq (level_of map a) k) (get nat_cmp c.args.self.now.levels k) c.args.clause.now g c.in-None.is (sorted.1 k),
    )
