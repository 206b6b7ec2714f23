use Rattle.std.proofs.Common.{◌≡◌, take, ◌∷◌}
use Rattle.scasp_rows.proofs.backward.in_front.Given as goal

abbrev pub invariant-loop-p : goal.invariant-loop-p
invariant-loop-p l = l.all ≡ l.fn.first ∷ take l.p-index l.point
