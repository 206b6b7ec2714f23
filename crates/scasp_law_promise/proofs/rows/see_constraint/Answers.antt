use Rattle.scasp_num.proofs.NormalTests.{normal-decided}
use Rattle.scasp_law_promise.proofs.rows.see_constraint.Goals as goal

pub returns-in-Row : goal.returns-in-Row
returns-in-Row c = rw c.in-Row.is ((normal-decided c.in-Row.row).1 c.op.ensures.normal)
