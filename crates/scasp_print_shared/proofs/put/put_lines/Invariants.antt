use Rattle.std.proofs.Common.{◌≡◌, ◌++◌, drop}
use Rattle.std.specs.Prelude.{flat_map}
use Rattle.scasp_copies.specs.Pieces.{piece_text}
use Rattle.scasp_print_shared.specs.Inside.Lines.{read_all}
use Rattle.scasp_print_shared.proofs.put.put_lines.Given as goal

abbrev pub invariant-loop-line : goal.invariant-loop-line
invariant-loop-line l =
    l.out.items ++ flat_map piece_text (read_all (drop l.line-index l.lines)) ≡ l.fn.out.items ++ flat_map piece_text (read_all l.lines)
