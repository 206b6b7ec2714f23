use Rattle.std.proofs.Common.{◌≡◌, ◌++◌}
use Rattle.scasp_syntax.specs.Tm.{weight_s}
use Rattle.scasp_unify.specs.Unification.{terms_vars}
use Rattle.scasp_search_terms.proofs.constraints.push_all_vars.Given as goal

abbrev pub invariant-terms : goal.invariant-terms
invariant-terms l = l.found ++ terms_vars l.walk ≡ l.fn.found ++ terms_vars l.terms

abbrev pub decreases-terms : goal.decreases-terms
decreases-terms l = weight_s l.walk
