use Rattle.scasp_law_extension.proofs.AboveLemmas.{levelled-above}
use Rattle.scasp_law_extension.proofs.laws.levelled_model_extends.Goals as goal

pub returns : goal.returns
returns c = levelled-above
