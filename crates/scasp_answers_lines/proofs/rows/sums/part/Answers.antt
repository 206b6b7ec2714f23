use Rattle.std.proofs.Common.{sym}
use Rattle.scasp_answers_lines.proofs.RowsLemmas.SumLemmas.{Goes-same, part-variable}
use Rattle.scasp_answers_lines.proofs.rows.sums.part.Goals as goal

pub returns-in-Some-Variable-clause-goes : goal.returns-in-Some-Variable-clause-goes
returns-in-Some-Variable-clause-goes c =
    let first = rw c.in-Some-Variable.field-0-is at c.in-Some-Variable.ensures in
    Goes-same _ _ _ _ _ _ (part-variable c.args.negative c.in-Some-Variable.x c.args.cursor.now c.take.new.self (sym first) c.take.ensures) c.summand.ensures.goes
