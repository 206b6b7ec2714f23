use Rattle.scasp_syntax.specs.Values.{under}
use Rattle.scasp_syntax.specs.View.{tm_of}
use Rattle.scasp_syntax.proofs.SameLemmas.{tm_decided}
use Rattle.scasp_syntax.proofs.ValueLemmas.{differ_decided}
use Rattle.scasp_syntax.proofs.laws.equations_hold_for_equal_values.Goals as goal

pub returns-clause-equation : goal.returns-clause-equation
returns-clause-equation c = λ v t s. tm_decided (under v (tm_of t)) (under v (tm_of s))

pub returns-clause-disequation : goal.returns-clause-disequation
returns-clause-disequation c = λ v t s. differ_decided (under v (tm_of t)) (under v (tm_of s))
