use Rattle.scasp_search_steps.proofs.TestLemmas.{row_assumed, row_numbered}
use Rattle.scasp_search_steps.proofs.tests.row_item.Goals as goal

pub returns-then-general-clause-now : goal.returns-then-general-clause-now
returns-then-general-clause-now g c =
    row_assumed (g.M.Situation.now c.args.at.now) (g.M.Situation.now c.assume.new.at) c.args.row.now c.args.test.now c.in_ok-general.general c.assume.result
    c.requires c.in_ok-general.ensures c.if-general.true c.assume.ensures.now

pub returns-else-general-clause-now : goal.returns-else-general-clause-now
returns-else-general-clause-now g c =
    row_numbered (g.M.Situation.now c.args.at.now) (g.M.Situation.now c.row_of_numbers.new.at) c.args.row.now c.args.test.now c.in_ok-general.general
    c.row_of_numbers.result c.requires c.in_ok-general.ensures c.if-general.false c.row_of_numbers.ensures.now
