use Rattle.std.proofs.Common.{◌≡◌, ◌++◌, vec_len}
use Rattle.scasp_cert.specs.Certificate.{checks_of}
use Rattle.scasp_search_trees.specs.Stacked.{checks_in}
use Rattle.scasp_search_trees.proofs.stacks.all_checks.Given as goal

abbrev pub invariant-loop-check : goal.invariant-loop-check
invariant-loop-check l = checks_of l.made ++ checks_in l.stack.items ≡ checks_in l.fn.stack.items

abbrev pub decreases-loop-check : goal.decreases-loop-check
decreases-loop-check l = vec_len l.stack
