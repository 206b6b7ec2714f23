use Rattle.scasp_disjoint.proofs.ApartLemmas.{none-in_common}
use Rattle.scasp_disjoint.proofs.laws.lines_shown_apart_have_no_atom_in_common.Goals as goal

pub returns : goal.returns
returns x = none-in_common
