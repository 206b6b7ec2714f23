use Rattle.std.proofs.Common.{◌≡◌, drop, map}
use Rattle.scasp_copies.specs.Copies.{moved_piece}
use Rattle.scasp_copies.specs.Pieces.{same_pieces}
use Rattle.scasp_print_shared.specs.Inside.Lines.{move_of, read_all}
use Rattle.scasp_print_shared.proofs.moves.same_lines.Given as goal

abbrev pub invariant-loop-k : goal.invariant-loop-k
invariant-loop-k l =
    same_pieces (map (moved_piece (move_of l.shift) l.shift.top l.shift.depth) (read_all (drop l.k l.lines))) (read_all (drop l.k l.others))
    ≡ same_pieces (map (moved_piece (move_of l.shift) l.shift.top l.shift.depth) (read_all l.lines)) (read_all l.others)
