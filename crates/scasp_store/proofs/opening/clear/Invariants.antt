use Rattle.std.proofs.Common.{◌≡◌}
use Rattle.scasp_store.proofs.opening.clear.Given as goal

abbrev pub invariant-all : goal.invariant-all
invariant-all g l = l.items.before ≡ l.fn.items.before
