use Rattle.scasp_lines.proofs.NegationLemmas.{negated-holds}
use Rattle.scasp_lines.proofs.DescentLemmas.{descends}
use Rattle.scasp_lines.proofs.laws.cases_are_exhaustive.Goals as goal

pub returns : goal.returns
returns c = record { negation = negated-holds; case = descends }
