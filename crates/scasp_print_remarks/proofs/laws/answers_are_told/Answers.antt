use Rattle.scasp_print_remarks.proofs.TellingLemmas.{answers-told}
use Rattle.scasp_print_remarks.proofs.laws.answers_are_told.Goals as goal

pub returns : goal.returns
returns c = answers-told
