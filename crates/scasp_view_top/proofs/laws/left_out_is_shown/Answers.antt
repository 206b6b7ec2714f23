use Rattle.scasp_view_top.proofs.BlocksLemmas.OnceLemmas.{left-out-is-shown}
use Rattle.scasp_view_top.proofs.laws.left_out_is_shown.Goals as goal

pub returns : goal.returns
returns c = left-out-is-shown
