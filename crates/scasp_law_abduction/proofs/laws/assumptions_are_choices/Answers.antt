use Rattle.scasp_law_abduction.proofs.AbductionLemmas.{abduction-less, abduction-more}
use Rattle.scasp_law_abduction.proofs.laws.assumptions_are_choices.Goals as goal

pub returns-clause-less : goal.returns-clause-less
returns-clause-less c = abduction-less

pub returns-clause-more : goal.returns-clause-more
returns-clause-more c = abduction-more
