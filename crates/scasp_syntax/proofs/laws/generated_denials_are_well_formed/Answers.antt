use Rattle.scasp_syntax.proofs.ProgramLemmas.{with_denials-well_formed}
use Rattle.scasp_syntax.proofs.laws.generated_denials_are_well_formed.Goals as goal

pub returns : goal.returns
returns c = with_denials-well_formed
