use Rattle.std.proofs.Common.{◌≡◌, drop}
use Rattle.scasp_num.specs.SameRow.{same_terms}
use Rattle.scasp_answers_lines.proofs.rows.rows.same_terms.Given as goal

abbrev pub invariant-loop-i : goal.invariant-loop-i
invariant-loop-i l = same_terms (drop l.i l.p) (drop l.i l.q) ≡ same_terms l.p l.q
