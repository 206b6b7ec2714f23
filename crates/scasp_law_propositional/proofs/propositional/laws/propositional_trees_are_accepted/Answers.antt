use Rattle.scasp_law_propositional.proofs.PropositionalLemmas.Answering.{answers-right}
use Rattle.scasp_law_propositional.proofs.propositional.laws.propositional_trees_are_accepted.Goals as goal

pub returns : goal.returns
returns c = λ p a tests is plain q named budget d met. (answers-right p a tests is plain q named budget d met).accepted
