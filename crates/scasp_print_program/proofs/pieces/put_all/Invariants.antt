use Rattle.std.proofs.Common.{◌≡◌, ◌++◌, reverse}
use Rattle.scasp_print_program.specs.Pieces.{all_text, weights}
use Rattle.scasp_print_program.proofs.pieces.put_all.Given as goal

abbrev pub invariant-loop-piece : goal.invariant-loop-piece
invariant-loop-piece l = l.out.items ++ all_text l.shown (reverse l.waiting.items) ≡ l.fn.out.items ++ all_text l.shown (reverse l.fn.pieces.items)

abbrev pub decreases-loop-piece : goal.decreases-loop-piece
decreases-loop-piece l = weights (reverse l.waiting.items)
