use Rattle.scasp_search_ends.proofs.FinishedLemmas.CountLemmas.{others-next}
use Rattle.scasp_search_ends.proofs.finished.universals.push_others.Goals as goal

pub loop-x-preserved : goal.loop-x-preserved
loop-x-preserved c =
    others-next c.args.but.now c.loop-x.found c.push_unless.new.found _ c.loop-x.x _ c.loop-x-test.true c.in_ok-push_unless.ensures c.loop-x.invariant
