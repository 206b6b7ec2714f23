use Rattle.scasp_search_steps.proofs.TestLemmas.{differ_assumed}
use Rattle.scasp_search_steps.proofs.tests.differ_item.Goals as goal

pub returns-else-general-clause-now : goal.returns-else-general-clause-now
returns-else-general-clause-now g c =
    differ_assumed (g.M.Situation.now c.args.at.now) (g.M.Situation.now c.assume.new.at) c.args.left.now c.args.right.now c.args.test.now
    c.in_ok-general.general c.assume.result c.requires c.in_ok-general.ensures c.if-general.false c.assume.ensures.now
