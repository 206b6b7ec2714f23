use Rattle.scasp_law_extension.proofs.AboveLemmas.{same-above}
use Rattle.scasp_law_extension.proofs.laws.same_atoms_extend.Goals as goal

pub returns : goal.returns
returns c = same-above
