use Rattle.scasp_law_propositional.proofs.RunsLemmas.RunLemmas.{run-passes-none}
use Rattle.scasp_law_propositional.proofs.runs.laws.each_tree_is_printed.Goals as goal

pub returns : goal.returns
returns c = run-passes-none
