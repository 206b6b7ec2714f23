use Rattle.std.proofs.Common.{Some}
use Rattle.std.specs.BTreeMap.{get}
use Rattle.std.specs.Ordering.{nat_cmp}
use Rattle.scasp_extend_levels.proofs.BucketLemmas.{put-stands}
use Rattle.scasp_extend_levels.proofs.buckets.put_at.Goals as goal

pub returns : goal.returns
returns c =
    put-stands c.args.level (get nat_cmp c.args.levels.now) (get nat_cmp c.take_at-rules.new.levels) (get nat_cmp c.insert.new.self) c.take_at-rules.result c.push.new.self
    (record { head = Some c.args.head.now; body = c.args.body.now }) c.take_at-rules.ensures.taken c.take_at-rules.ensures.others c.in_ok-push.ensures c.in_ok-insert.ensures.updates.0
