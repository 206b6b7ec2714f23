use Rattle.scasp_law_parts.proofs.FixedLemmas.{number-made, cut-decides, number-refuses}
use Rattle.scasp_law_parts.proofs.laws.fixed_numbers_part.Goals as goal

pub returns-clause-made : goal.returns-clause-made
returns-clause-made c = number-made

pub returns-clause-decide : goal.returns-clause-decide
returns-clause-decide c = cut-decides

pub returns-clause-refuses : goal.returns-clause-refuses
returns-clause-refuses c = number-refuses
