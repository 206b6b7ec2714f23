use Rattle.std.proofs.Common.{sym}
use Rattle.scasp_answers_lines.proofs.RowsLemmas.SumLemmas.{Goes-same, part-star}
use Rattle.scasp_answers_lines.proofs.rows.sums.number.Goals as goal

pub returns-in-Some-Star-clause-goes : goal.returns-in-Some-Star-clause-goes
returns-in-Some-Star-clause-goes c =
    let first = rw c.in-Some-Star.field-0-is at c.in-Some-Star.ensures in
    Goes-same _ _ _ _ _ _ (part-star c.args.negative c.args.size c.args.cursor.now c.take.new.self (sym first) c.take.ensures) c.multiple.ensures.goes
