use Rattle.scasp_search_steps.proofs.TestLemmas.{item_assumed}
use Rattle.scasp_search_steps.proofs.tests.assumed_item.Goals as goal

pub returns-clause-now : goal.returns-clause-now
returns-clause-now g c =
    item_assumed (g.M.Situation.now c.args.at.now) (g.M.Situation.now c.assume.new.at) c.args.test.now c.assume.result c.requires c.assume.ensures.now
