use Rattle.std.proofs.Common.{◌≡◌, ◌++◌, drop}
use Rattle.std.specs.List.{flat_map}
use Rattle.scasp_ground.specs.Bounded.{test_of}
use Rattle.scasp_ground.proofs.tested.body_tests.Given as goal

abbrev pub invariant-loop-item : goal.invariant-loop-item
invariant-loop-item l = l.tests ++ flat_map test_of (drop l.item-index l.item-items) ≡ flat_map test_of l.item-items
