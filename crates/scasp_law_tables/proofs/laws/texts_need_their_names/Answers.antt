use Rattle.scasp_law_tables.proofs.Agreeing.{words-same}
use Rattle.scasp_law_tables.proofs.laws.texts_need_their_names.Goals as goal

pub returns : goal.returns
returns c = λ count names table l same e. words-same count names table same l e
