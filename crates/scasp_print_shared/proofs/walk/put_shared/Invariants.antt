use Rattle.std.proofs.Common.{◌≡◌, ℕ, ◌++◌, [], take}
use Rattle.std.specs.Prelude.{flat_map}
use Rattle.scasp_copies.specs.Pieces.{piece_text}
use Rattle.scasp_print_shared.specs.Inside.Lines.{read_all}
use Rattle.scasp_print_shared.specs.Inside.Places.{listed, places_of}
use Rattle.scasp_print_shared.specs.Shared.{shared_lines}
use Rattle.scasp_print_shared.proofs.WalkLemmas.{text_from}
use Rattle.scasp_print_shared.proofs.walk.put_shared.Given as goal

abbrev pub invariant-loop-line : goal.invariant-loop-line
invariant-loop-line l = record {
  text : l.out.items ++ text_from l.left_out l.line (read_all l.lines) ≡ l.fn.out.items ++ flat_map piece_text (shared_lines [] (read_all l.lines));
  places : (class : ℕ) → listed l.places.items class ≡ places_of class 0 (take l.line l.marks.items);
}
