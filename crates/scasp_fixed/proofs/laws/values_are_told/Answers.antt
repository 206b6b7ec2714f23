use Rattle.scasp_fixed.proofs.FixedLemmas.{told-fills, told-same}
use Rattle.scasp_fixed.proofs.laws.values_are_told.Goals as goal

pub returns-clause-same : goal.returns-clause-same
returns-clause-same c = told-same

pub returns-clause-filled : goal.returns-clause-filled
returns-clause-filled c = told-fills
