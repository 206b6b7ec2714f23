use Rattle.std.proofs.Common.{◌≡◌, ◌++◌, map, take}
use Rattle.std.specs.List.{flat_map}
use Rattle.scasp_print_atoms.specs.Lines.{atom_line}
use Rattle.scasp_print_atoms.proofs.lines.put_atom_lines.Given as goal

abbrev pub invariant-loop-text : goal.invariant-loop-text
invariant-loop-text l = l.out.items ≡ l.fn.out.items ++ flat_map atom_line (map (λ text. text.items) (take l.text-index l.text-items))
