use Rattle.std.proofs.Common.{◌≡◌, drop, map, length}
use Rattle.std.specs.Prelude.{nat_le, flat_map}
use Rattle.scasp_copies.specs.Pieces.{piece_text}
use Rattle.scasp_copies.specs.View.{pieces_of, stands_for, moved_by}
use Rattle.scasp_copies.proofs.subtree.Subtree.fits.Given as goal

abbrev pub invariant-loop-line : goal.invariant-loop-line
invariant-loop-line l =
    nat_le (length (flat_map piece_text (map (moved_by l.self.moving) (pieces_of (drop l.line-index l.self.lines.now))))) l.left ≡ nat_le (length (flat_map piece_text (stands_for l.self))) l.fn.room
