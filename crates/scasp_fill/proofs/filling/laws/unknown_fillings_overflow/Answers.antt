use Rattle.scasp_fill.proofs.FillingLemmas.UnknownLemmas.{unknown-overflows}
use Rattle.scasp_fill.proofs.filling.laws.unknown_fillings_overflow.Goals as goal

pub returns : goal.returns
returns c = unknown-overflows
