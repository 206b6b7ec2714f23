use Rattle.std.proofs.Common.{◌≡◌, to_z, of_z, arith}
use Rattle.std.specs.Int.{w128}
use Rattle.std.proofs.lemmas.Int.{to_z-of_z}
use Rattle.std.proofs.lemmas.Result.{err_from_is_err_and}
use Rattle.scasp_hint.proofs.RunCalls.{row-refused}
use Rattle.scasp_hint.proofs.showing.row_added.Goals as goal

pub returns-in_err-row : goal.returns-in_err-row
returns-in_err-row c =
    let s = c.args.added.now in
    let a : to_z w128 (of_z w128 c.args.added.now.a) ≡ c.args.added.now.a = grind (arith, to_z-of_z) in
    let b : to_z w128 (of_z w128 c.args.added.now.b) ≡ c.args.added.now.b = grind (arith, to_z-of_z) in
    let p = err_from_is_err_and c.from_residual.result c.from_residual.ensures.1 in
    rw p.1 (row-refused c.args.rows.now s c.in-Some.first.now c.in-Some-row_numbered.second.now (to_z w128 (of_z w128 s.a)) (to_z w128 (of_z w128 s.b)) c.in_err-row.field-0.0 p.0 c.in-Some.ensures c.in-Some-row_numbered.ensures a b c.in_err-row.ensures.exact p.2)
