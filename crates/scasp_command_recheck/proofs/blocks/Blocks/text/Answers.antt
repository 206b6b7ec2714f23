use Rattle.std.proofs.Common.{◌≡◌, ◌∙◌, ◌++◌, ap}
use Rattle.std.specs.List.{concat}
use Rattle.scasp_recheck.specs.Meaning.{certs_in, program_of}
use Rattle.scasp_command_recheck.specs.Lines.{lines_by}
use Rattle.scasp_command_recheck.specs.Texts.{program_line, visited_line}
use Rattle.scasp_command_recheck.proofs.BlockLemmas.{text-of}
use Rattle.scasp_command_recheck.proofs.blocks.Blocks.text.Goals as goal

pub returns : goal.returns
returns c =
    let b = c.args.self.now in
    let lines = concat (lines_by (program_of b.recheck) b.numbers (certs_in b.recheck)) in
    λ p entries h.
    text-of b p entries c.args.number c.args.visited c.put_visited.new.text.items h
    (c.in_ok-put_visited.ensures ∙ ap (λ z. z ++ visited_line c.args.visited)
    (c.in_ok-put_lines.ensures ∙ ap (λ z. z ++ lines) (c.in_ok-put_program.ensures ∙ ap (λ z. z ++ program_line c.args.number) c.new-text.ensures.items)))
