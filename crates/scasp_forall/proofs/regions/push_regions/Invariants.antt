use Rattle.std.proofs.Common.{◌≡◌, ◌++◌, take}
use Rattle.std.specs.List.{flat_map}
use Rattle.scasp_forall.specs.Inside.Listed.{listed}
use Rattle.scasp_forall.specs.declared.scope.Scope.{Scope}
use Rattle.scasp_forall.proofs.regions.push_regions.Given as goal

abbrev pub invariant-loop-scope : goal.invariant-loop-scope
invariant-loop-scope l = l.list ≡ l.fn.list ++ flat_map (λ (s : Scope). listed s.region) (take l.scope-index l.scopes)
