use Rattle.scasp_law_sorted.proofs.Loose.{loose-unsorted}
use Rattle.scasp_law_sorted.proofs.laws.loose_lists_are_unsorted.Goals as goal

pub returns : goal.returns
returns c = λ cs e h. loose-unsorted cs e h
