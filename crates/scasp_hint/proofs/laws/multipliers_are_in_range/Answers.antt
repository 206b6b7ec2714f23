use Rattle.scasp_hint.proofs.HintRanges.{hint-range}
use Rattle.scasp_hint.proofs.laws.multipliers_are_in_range.Goals as goal

pub returns : goal.returns
returns c = hint-range
