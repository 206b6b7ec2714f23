use Rattle.std.proofs.Common.{◌≡◌, ◌++◌, drop}
use Rattle.scasp_store.specs.Inside.Open.{opened}
use Rattle.scasp_store.proofs.opening.push_open.Given as goal

abbrev pub invariant-loop-place : goal.invariant-loop-place
invariant-loop-place l = l.list ++ opened l.given (drop l.place-index l.places) ≡ l.fn.list ++ opened l.given l.places
