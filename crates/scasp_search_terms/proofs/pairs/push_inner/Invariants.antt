use Rattle.std.proofs.Common.{◌≡◌, ◌++◌}
use Rattle.scasp_search_rules.specs.Successors.Pairs.{all_pairs_of}
use Rattle.scasp_search_terms.proofs.PairLemmas.{all_in, work}
use Rattle.scasp_syntax.specs.View.{tms_of}
use Rattle.scasp_search_terms.proofs.pairs.push_inner.Given as goal

abbrev pub invariant-lists : goal.invariant-lists
invariant-lists l = l.found ++ all_in l.unseen.items ≡ l.fn.found ++ all_pairs_of (tms_of l.left) (tms_of l.right)

abbrev pub decreases-lists : goal.decreases-lists
decreases-lists l = work l.unseen.items
