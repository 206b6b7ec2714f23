use Rattle.std.proofs.Common.{◌≡◌, ◌++◌, drop}
use Rattle.scasp_search_rules.specs.Successors.Cases.{unbound}
use Rattle.scasp_search_calls.proofs.cases.kept.unbound.Given as goal

abbrev pub invariant-loop-binding : goal.invariant-loop-binding
invariant-loop-binding l = l.made ++ unbound l.universals l.but (drop l.binding-index l.bindings) ≡ unbound l.universals l.but l.bindings
