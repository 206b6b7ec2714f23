use Rattle.std.proofs.Common.{◌≡◌, drop}
use Rattle.scasp_search_rules.specs.Successors.Splits.{is_bound_in}
use Rattle.scasp_search_terms.proofs.splits.is_bound.Given as goal

abbrev pub invariant-loop-binding : goal.invariant-loop-binding
invariant-loop-binding l = is_bound_in (drop l.binding-index l.bindings) l.x ≡ is_bound_in l.bindings l.x
