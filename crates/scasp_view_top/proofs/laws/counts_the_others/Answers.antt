use Rattle.scasp_view_top.proofs.BlocksLemmas.OnceLemmas.{counts-the-others}
use Rattle.scasp_view_top.proofs.laws.counts_the_others.Goals as goal

pub returns : goal.returns
returns c = counts-the-others
