use Rattle.std.proofs.Common.{◌≡◌, ◌++◌, drop}
use Rattle.std.specs.Prelude.{flat_map}
use Rattle.scasp_shorten.specs.Shortest.{single}
use Rattle.scasp_shorten.proofs.alternatives.singles.Given as goal

abbrev pub invariant-loop-open : goal.invariant-loop-open
invariant-loop-open l = l.made ++ flat_map single (drop l.open-index l.opens) ≡ flat_map single l.opens
