use Rattle.scasp_sound.proofs.ExampleLemmas.{circle-not, entered-supports, choice-supports, choice-model}
use Rattle.scasp_sound.proofs.laws.small_programs.Goals as goal

pub returns-clause-circle : goal.returns-clause-circle
returns-clause-circle c = circle-not

pub returns-clause-entered : goal.returns-clause-entered
returns-clause-entered c = entered-supports

pub returns-clause-choice : goal.returns-clause-choice
returns-clause-choice c = choice-supports

pub returns-clause-model : goal.returns-clause-model
returns-clause-model c = choice-model
