use Rattle.std.proofs.Common.{◌≡◌, reverse}
use Rattle.scasp_touched.specs.Inside.{with_named}
use Rattle.scasp_touched.specs.Unseen.{part_clauses, part_preds, unseen_clauses, unseen_preds, work}
use Rattle.scasp_touched.proofs.named.name_all.Given as goal

abbrev pub invariant-loop-first : goal.invariant-loop-first
invariant-loop-first l =
    with_named l.named (unseen_clauses (reverse l.unseen.items)) (unseen_preds (reverse l.unseen.items)) ≡ with_named l.fn.named (part_clauses l.fn.part) (part_preds l.fn.part)

abbrev pub decreases-loop-first : goal.decreases-loop-first
decreases-loop-first l = work (reverse l.unseen.items)
