use Rattle.std.proofs.Common.{◌≡◌, drop}
use Rattle.scasp_law_promise.specs.OwnRows.{are_normal}
use Rattle.scasp_law_promise.proofs.rows.see_constraints.Given as goal

abbrev pub invariant-loop-con : goal.invariant-loop-con
invariant-loop-con l = are_normal l.cons ≡ are_normal (drop l.con-index l.cons)
