use Rattle.std.proofs.Common.{arith, sym}
use Rattle.scasp_bound.proofs.ReadLemmas.{some_after}
use Rattle.scasp_bound.proofs.places.first_after.Goals as goal

pub returns-else-at-from : goal.returns-else-at-from
returns-else-at-from c = some_after c.args.from c.in-Some.at c.args.x c.args.items.now (sym c.in-Some.ensures) (omega (arith, c.if-at-from.false))
