use Rattle.std.proofs.Common.{arith}
use Rattle.scasp_loops.proofs.OpenLemmas.{one_open}
use Rattle.scasp_loops.proofs.innermost.last_open.Goals as goal

pub returns-else-marks_at-clause-open : goal.returns-else-marks_at-clause-open
returns-else-marks_at-clause-open c =
    one_open c.args.entries.now c.args.marks.now c.literals.left c.args.count c.marks_at.result (omega arith) (omega arith) c.marks_at.ensures c.if-marks_at.false c.literals.invariant.done
