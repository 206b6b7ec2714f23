use Rattle.scasp_simplex.proofs.VerdictLemmas.{eliminated-answers}
use Rattle.scasp_simplex.proofs.fallback.by_elimination.Goals as goal

pub returns : goal.returns
returns c =
    let e = c.eliminate.ensures in
    eliminated-answers c.args.rows.now c.eliminate.result c.requires.open e.exact e.sat e.unsat e.multipliers
