use Rattle.std.proofs.Common.{◌≡◌, take}
use Rattle.scasp_search_rules.proofs.states.copies.copy_bindings.Given as goal

abbrev pub invariant-loop-binding : goal.invariant-loop-binding
invariant-loop-binding l = l.copied ≡ take l.binding-index l.bindings
