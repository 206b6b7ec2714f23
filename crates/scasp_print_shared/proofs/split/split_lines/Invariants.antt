use Rattle.std.proofs.Common.{◌≡◌, ◌++◌, length, map}
use Rattle.scasp_copies.specs.Pieces.{piece_of, split_lines}
use Rattle.scasp_print_shared.specs.Inside.Lines.{read_all}
use Rattle.scasp_print_shared.proofs.split.split_lines.Given as goal

abbrev pub invariant-loop-len : goal.invariant-loop-len
invariant-loop-len l = record {
  lines : read_all l.lines.items ++ map piece_of (split_lines l.rest).lines ≡ map piece_of (split_lines l.fn.text).lines;
  rest : (split_lines l.rest).rest ≡ (split_lines l.fn.text).rest;
}

abbrev pub decreases-loop-len : goal.decreases-loop-len
decreases-loop-len l = length l.rest
