use Rattle.scasp_search_trail.specs.States.{state_of}
use Rattle.scasp_search_trail.proofs.ForesightLemmas.{name_expected}
use Rattle.scasp_search_trail.proofs.foresight.reached_expected.Goals as goal

pub returns-in-App : goal.returns-in-App
returns-in-App c = rw c.in-App.is (name_expected (state_of c.args.parts.now) c.in-App.name c.in-App.args c.len.result c.len.ensures)
