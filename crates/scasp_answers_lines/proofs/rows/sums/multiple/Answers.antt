use Rattle.std.proofs.Common.{sym}
use Rattle.scasp_answers_lines.proofs.RowsLemmas.SumLemmas.{Goes-same, part-multiple}
use Rattle.scasp_answers_lines.proofs.rows.sums.multiple.Goals as goal

pub returns-then-size-gt1-clause-goes : goal.returns-then-size-gt1-clause-goes
returns-then-size-gt1-clause-goes c =
    let first = rw c.in-Some-Variable.field-0-is at c.in-Some-Variable.ensures in
    Goes-same _ _ _ _ _ _ (part-multiple c.args.negative c.args.size c.in-Some-Variable.number c.args.cursor.now c.take.new.self (sym first) c.if-size-gt1.true c.take.ensures) c.summand.ensures.goes
