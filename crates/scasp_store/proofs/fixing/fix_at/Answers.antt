use Rattle.scasp_store.proofs.FixLemmas.{says_at}
use Rattle.scasp_store.proofs.fixing.fix_at.Goals as goal

pub returns : goal.returns
returns c = λ t h. c.in_ok-fix_by.ensures c.args.list.now (says_at c.args.list.now c.args.at c.con_at.result.now c.con_at.ensures) t h
