use Rattle.std.proofs.Common.{◌≡◌, reverse}
use Rattle.scasp_view_top.specs.Trees.Inside.Waiting.{rows_of, rows_waiting, weights}
use Rattle.scasp_view_top.specs.Trees.Pages.{with_rows}
use Rattle.scasp_view_top.proofs.trees.put_all.Given as goal

abbrev pub invariant-loop-next : goal.invariant-loop-next
invariant-loop-next l = with_rows l.page (rows_waiting l.view (reverse l.waiting.items)) ≡ with_rows l.fn.page (rows_of l.view l.fn.part)

abbrev pub decreases-loop-next : goal.decreases-loop-next
decreases-loop-next l = weights (reverse l.waiting.items)
