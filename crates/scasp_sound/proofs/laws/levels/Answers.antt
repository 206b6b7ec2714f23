use Rattle.scasp_sound.proofs.LevelInduction.{levelled-stable}
use Rattle.scasp_sound.proofs.StepLemmas.{steps-enough}
use Rattle.scasp_sound.proofs.laws.levels.Goals as goal

pub returns-clause-stable : goal.returns-clause-stable
returns-clause-stable c = levelled-stable

pub returns-clause-enough : goal.returns-clause-enough
returns-clause-enough c = steps-enough
