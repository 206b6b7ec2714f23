use Rattle.scasp_law_checked.proofs.Samples.{searches-named}
use Rattle.scasp_law_checked.proofs.laws.searches_are_named.Goals as goal

pub returns : goal.returns
returns c = searches-named c.read_programs_are_within.ensures
