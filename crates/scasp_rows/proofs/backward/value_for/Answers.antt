use Rattle.std.proofs.Common.{not}
use Rattle.std.proofs.lemmas.Bool.{and_parts}
use Rattle.scasp_num.specs.Linear.{is_equation, is_zero}
use Rattle.scasp_num.proofs.Comparing.{ne_zero}
use Rattle.scasp_rows.specs.Elimination.{factor}
use Rattle.scasp_rows.proofs.Soundness.{first_equation-solves, not_true}
use Rattle.scasp_rows.proofs.backward.value_for.Goals as goal

pub solution_of-requires : goal.solution_of-requires
solution_of-requires c =
    let p = c.in-Some.p.now in
    let x = c.args.x in
    let s = first_equation-solves x c.args.rows.now p c.in-Some.ensures in
    ne_zero (factor x p) (not_true (is_zero (factor x p)) (and_parts (is_equation p.row.op) (not (is_zero (factor x p))) s).1)
