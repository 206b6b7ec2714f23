use Rattle.scasp_law_propositional.proofs.RunsLemmas.SampleLemmas.{searched-tests}
use Rattle.scasp_law_propositional.proofs.runs.laws.searches_have_tests.Goals as goal

pub returns : goal.returns
returns c = searched-tests
