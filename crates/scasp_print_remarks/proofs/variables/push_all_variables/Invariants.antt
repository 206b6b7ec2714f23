use Rattle.std.proofs.Common.{◌≡◌, ◌++◌, reverse}
use Rattle.scasp_syntax.specs.View.{tms_of}
use Rattle.scasp_unify.specs.Unification.{terms_vars}
use Rattle.scasp_print_remarks.specs.Inside.Unseen.{unseen_vars, unseen_weight}
use Rattle.scasp_print_remarks.proofs.variables.push_all_variables.Given as goal

abbrev pub invariant-loop-next : goal.invariant-loop-next
invariant-loop-next l = l.found ++ unseen_vars (reverse l.unseen.items) ≡ l.fn.found ++ terms_vars (tms_of l.terms)

abbrev pub decreases-loop-next : goal.decreases-loop-next
decreases-loop-next l = unseen_weight (reverse l.unseen.items)
