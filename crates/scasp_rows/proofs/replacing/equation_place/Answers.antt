use Rattle.std.proofs.Common.{sym, ◌∙◌}
use Rattle.scasp_rows.proofs.Placing.{equation-found}
use Rattle.scasp_rows.proofs.replacing.equation_place.Goals as goal

pub returns-then-solves : goal.returns-then-solves
returns-then-solves c =
    equation-found c.args.x c.args.rows.now c.loop-i.i c.index-rows-i.result c.loop-i-test.true c.index-rows-i.is (sym c.solves.ensures ∙ c.if-solves.true) c.loop-i.invariant.0 c.loop-i.invariant.1
