use Rattle.std.proofs.Common.{◌≡◌}
use Rattle.scasp_unify.specs.Negations.{new_parts}
use Rattle.scasp_search_terms.proofs.forms.new_parts.Given as goal

abbrev pub invariant-loop-place : goal.invariant-loop-place
invariant-loop-place l = l.made ≡ new_parts l.first l.place
