use Rattle.std.proofs.Common.{length}
use Rattle.scasp_model.proofs.LeastLemmas.{least_model-closed, rounds-within, rounds-distinct, rounds_enough}
use Rattle.scasp_model.proofs.laws.least_model_is_least.Goals as goal

pub returns-clause-closed : goal.returns-clause-closed
returns-clause-closed c = least_model-closed

pub returns-clause-within : goal.returns-clause-within
returns-clause-within c = λ rules atoms closed. rounds-within rules atoms (length rules) closed

pub returns-clause-distinct : goal.returns-clause-distinct
returns-clause-distinct c = λ rules. rounds-distinct rules (length rules)

pub returns-clause-enough : goal.returns-clause-enough
returns-clause-enough c = rounds_enough
