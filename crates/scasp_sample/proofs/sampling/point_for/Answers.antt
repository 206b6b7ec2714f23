use Rattle.scasp_sample.proofs.SampleLemmas.{lists-differ, rows-plain}
use Rattle.scasp_sample.proofs.sampling.point_for.Goals as goal

pub sample-requires-clause-rows : goal.sample-requires-clause-rows
sample-requires-clause-rows c = rows-plain _ c.args.given.now c.in_ok-rows.rows c.in_ok-rows.ensures

pub sample-requires-clause-differ : goal.sample-requires-clause-differ
sample-requires-clause-differ c = lists-differ c.args.given.now c.args.given.now c.in_ok-differ.differ c.in_ok-differ.ensures
