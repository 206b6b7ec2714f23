use Rattle.scasp_view_top.proofs.BlocksLemmas.OnceLemmas.{shows-the-first}
use Rattle.scasp_view_top.proofs.laws.shows_the_first.Goals as goal

pub returns : goal.returns
returns c = shows-the-first
