use Rattle.scasp_shorten.proofs.ApartLemmas.{list-told}
use Rattle.scasp_shorten.proofs.laws.lists_are_shortened.Goals as goal

pub returns : goal.returns
returns c v cs n = list-told cs v n
