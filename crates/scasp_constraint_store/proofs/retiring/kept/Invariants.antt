use Rattle.std.proofs.Common.{◌≡◌, ◌++◌, drop}
use Rattle.scasp_constraint_store.specs.Held.{kept_from}
use Rattle.scasp_constraint_store.proofs.retiring.kept.Given as goal

abbrev pub invariant-loop-place : goal.invariant-loop-place
invariant-loop-place l = l.made.items ++ kept_from l.place l.places (drop l.place l.list) ≡ kept_from 0 l.places l.list
