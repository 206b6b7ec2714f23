use Rattle.std.proofs.Common.{◌≡◌, ◌++◌, length, map, reverse}
use Rattle.scasp_forall.specs.declared.scope.Scope.{Scope}
use Rattle.scasp_forall.proofs.listing.open_cases.Given as goal

abbrev pub invariant-covers : goal.invariant-covers
invariant-covers l = l.made ++ map (λ (s : Scope). s.case) (reverse l.rest) ≡ map (λ (s : Scope). s.case) (reverse l.scopes)

abbrev pub decreases-covers : goal.decreases-covers
decreases-covers l = length l.rest
