use Rattle.std.proofs.Common.{◌≡◌, drop}
use Rattle.std.specs.List.{flat_map, list_any}
use Rattle.scasp_forall.specs.Inside.Listed.{listed}
use Rattle.scasp_forall.specs.declared.scope.Scope.{Scope}
use Rattle.scasp_forall.proofs.regions.any_of_regions.Given as goal

abbrev pub invariant-loop-scope : goal.invariant-loop-scope
invariant-loop-scope g l =
    list_any (g.T.ConTest.holds l.test) (flat_map (λ (s : Scope). listed s.region) (drop l.scope-index l.scopes)) ≡ list_any (g.T.ConTest.holds l.test) (flat_map (λ (s : Scope). listed s.region) l.scopes)
