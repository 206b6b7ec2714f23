use Rattle.std.proofs.Common.{arith, sym}
use Rattle.scasp_loops.proofs.TopLemmas.{floor_is}
use Rattle.scasp_loops.proofs.asking.floor_of.Goals as goal

pub returns-then-raised-first : goal.returns-then-raised-first
returns-then-raised-first c =
    floor_is c.args.raised c.in-Some-rise.rise c.in-Some.first c.args.bound.now.now c.args.lit.now (sym c.in-Some.ensures) c.in-Some-rise.ensures (omega arith) (omega arith)
