use Rattle.scasp_print_remarks.proofs.SkeletonLemmas.{remarks-same}
use Rattle.scasp_print_remarks.proofs.laws.same_remarks.Goals as goal

pub returns : goal.returns
returns c = remarks-same
