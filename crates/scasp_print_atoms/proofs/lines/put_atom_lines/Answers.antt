use Rattle.std.proofs.Common.{◌≡◌, ◌∙◌, ◌++◌, List, map, length, take, ap, arith}
use Rattle.std.specs.List.{flat_map}
use Rattle.std.proofs.lemmas.List.{take_all}
use Rattle.scasp_cert.specs.Text.Terms.{atom_text}
use Rattle.scasp_print_atoms.specs.Lines.{atom_line}
use Rattle.scasp_print_atoms.proofs.AtomLemmas.{same-texts}
use Rattle.scasp_print_atoms.proofs.lines.put_atom_lines.Goals as goal

pub returns : goal.returns
returns c = λ set same.
    let seen = c.as_slice-text-items.result.now in
    let all : take c.loop-text.text-index seen ≡ seen = take_all c.loop-text.text-index seen (omega (arith, c.loop-text-test.false)) in
    c.loop-text.invariant
    ∙ ap (λ texts. c.args.out.now.items ++ flat_map atom_line (map (λ text. text.items) texts)) (all ∙ c.as_slice-text-items.ensures.value)
    ∙ ap (λ texts. c.args.out.now.items ++ flat_map atom_line texts) (c.in_ok-texts.ensures ∙ same-texts (atom_text c.args.names.now) c.args.atoms.now set c.requires same)
