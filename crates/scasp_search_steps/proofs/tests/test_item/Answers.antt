use Rattle.scasp_search_steps.proofs.tests.test_item.Goals as goal

pub returns-in-Neq-clause-now : goal.returns-in-Neq-clause-now
returns-in-Neq-clause-now g c = rw c.in-Neq.is c.differ_item.ensures.now
