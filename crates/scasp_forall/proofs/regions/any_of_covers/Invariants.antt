use Rattle.std.proofs.Common.{◌≡◌, drop}
use Rattle.std.specs.List.{flat_map, list_any}
use Rattle.scasp_forall.specs.Inside.Kept.{constraints_of}
use Rattle.scasp_forall.proofs.regions.any_of_covers.Given as goal

abbrev pub invariant-loop-scope : goal.invariant-loop-scope
invariant-loop-scope g l =
    list_any (g.T.ConTest.holds l.test) (flat_map constraints_of (drop l.scope-index l.scopes)) ≡ list_any (g.T.ConTest.holds l.test) (flat_map constraints_of l.scopes)
