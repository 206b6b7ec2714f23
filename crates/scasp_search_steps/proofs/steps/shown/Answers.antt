use Rattle.scasp_hint.specs.Satisfying.{sat}
use Rattle.scasp_search_rules.specs.Successors.Items.{show_test}
use Rattle.scasp_search_steps.proofs.ForkLemmas.{one_way}
use Rattle.scasp_search_steps.proofs.steps.shown.Goals as goal

pub returns-in-Test : goal.returns-in-Test
returns-in-Test g c =
    rw c.in-Test.is
    (one_way g.M.Foresees.foresees c.args.program.now (show_test sat (g.M.Situation.now c.args.at.now) c.in-Test.test) (g.M.Situation.now c.show_test.new.at)
    (g.M.Situation.points c.show_test.new.at) (g.M.Situation.points c.args.at.now) c.show_test.result c.show_test.ensures.now c.show_test.ensures.points)
