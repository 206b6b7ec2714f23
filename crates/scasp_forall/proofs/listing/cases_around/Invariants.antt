use Rattle.std.proofs.Common.{◌≡◌, ◌++◌, filter, length, map, not, reverse}
use Rattle.scasp_forall.specs.declared.scope.Scope.{Scope}
use Rattle.scasp_forall.proofs.listing.cases_around.Given as goal

abbrev pub invariant-covers : goal.invariant-covers
invariant-covers l =
    l.made ++ map (λ (s : Scope). s.case) (filter (λ (s : Scope). not s.opening.plain) (reverse l.rest))
    ≡ map (λ (s : Scope). s.case) (filter (λ (s : Scope). not s.opening.plain) (reverse l.scopes))

abbrev pub decreases-covers : goal.decreases-covers
decreases-covers l = length l.rest
