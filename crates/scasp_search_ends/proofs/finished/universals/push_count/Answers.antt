use Rattle.scasp_search_ends.proofs.FinishedLemmas.CountLemmas.{counted-next}
use Rattle.scasp_search_ends.proofs.finished.universals.push_count.Goals as goal

pub loop-x-preserved : goal.loop-x-preserved
loop-x-preserved c = counted-next c.loop-x.found c.push.new.self _ c.loop-x.x _ c.loop-x-test.true c.in_ok-push.ensures.ok c.loop-x.invariant
