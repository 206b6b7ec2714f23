use Rattle.scasp_sound.proofs.KeepingLemmas.{residual-all_keeps, residual-keeps}
use Rattle.scasp_sound.proofs.LevelInduction.{levelled-extends}
use Rattle.scasp_sound.proofs.laws.extension.Goals as goal

pub returns-clause-kept : goal.returns-clause-kept
returns-clause-kept c = residual-all_keeps

pub returns-clause-left : goal.returns-clause-left
returns-clause-left c = residual-keeps

pub returns-clause-extends : goal.returns-clause-extends
returns-clause-extends c = levelled-extends
