use Rattle.std.proofs.Common.{◌≡◌, map, take}
use Rattle.scasp_cert.specs.Text.Terms.{atom_text}
use Rattle.scasp_print_atoms.proofs.lines.atom_texts.Given as goal

abbrev pub invariant-loop-atom : goal.invariant-loop-atom
invariant-loop-atom l = map (λ text. text.items) l.texts.items ≡ map (atom_text l.names) (take l.atom-index l.atoms)
