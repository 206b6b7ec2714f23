use Rattle.scasp_fill.proofs.FillingLemmas.OwnLemmas.{skeleton-shown}
use Rattle.scasp_fill.specs.Filling.Filled.{found_on, clashes_found}
use Rattle.scasp_fill.proofs.filling.laws.filling_keeps_the_tree.Goals as goal

pub returns : goal.returns
returns x p c = skeleton-shown (found_on p c) (clashes_found p c) c
