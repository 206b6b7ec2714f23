use Rattle.std.proofs.Common.{◌≡◌, ◌++◌, drop, map}
use Rattle.scasp_test_samples.specs.Samples.{entry_of}
use Rattle.scasp_test_samples.proofs.programs.map_of.Given as goal

abbrev pub invariant-loop-name : goal.invariant-loop-name
invariant-loop-name l = l.maps ++ map entry_of (drop l.name-index l.entries) ≡ map entry_of l.entries
