use Rattle.std.proofs.Common.{◌≡◌}
use Rattle.std.specs.List.{sum_by}
use Rattle.scasp_syntax.specs.Tm.{weight}
use Rattle.scasp_syntax.specs.View.{tm_of}
use Rattle.scasp_syntax.specs.WellFormed.{is_below}
use Rattle.scasp_bind.specs.Inside.Heads.{terms_of}
use Rattle.scasp_bind.proofs.WalkLemmas.{below}
use Rattle.scasp_bind.proofs.walks.is_known.Given as goal

abbrev pub invariant-loop-next : goal.invariant-loop-next
invariant-loop-next l = below l.count (terms_of l.unseen.items) ≡ is_below l.count (tm_of l.term)

abbrev pub decreases-loop-next : goal.decreases-loop-next
decreases-loop-next l = sum_by weight (terms_of l.unseen.items)
