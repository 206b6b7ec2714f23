use Rattle.std.proofs.Common.{arith, drop, sym}
use Rattle.scasp_bound.proofs.ReadLemmas.{at_least}
use Rattle.scasp_bound.proofs.reading.head_of.Goals as goal

pub bindings-smaller : goal.bindings-smaller
bindings-smaller c =
    let l = at_least c.bindings.next c.in-Some.at c.in-Var.x (drop c.bindings.next c.args.bindings.now) (sym c.in-Some.ensures) in
    omega (arith, l, c.in-Some-binding_at.ensures.place)
