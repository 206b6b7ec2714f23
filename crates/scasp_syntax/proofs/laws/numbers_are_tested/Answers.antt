use Rattle.scasp_syntax.specs.Values.{under}
use Rattle.scasp_syntax.specs.View.{tm_of}
use Rattle.scasp_syntax.proofs.ConstraintLemmas.{number-decided, no_number-decided}
use Rattle.scasp_syntax.proofs.laws.numbers_are_tested.Goals as goal

pub returns-clause-number : goal.returns-clause-number
returns-clause-number c = λ v t. number-decided (under v (tm_of t))

pub returns-clause-no_number : goal.returns-clause-no_number
returns-clause-no_number c = λ v t. no_number-decided (under v (tm_of t))
