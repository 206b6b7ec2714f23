use Rattle.std.proofs.Common.{◌≡◌, ◌∙◌, ◌+◌, ◌++◌, [], drop, append_assoc, append-nil, ap, sym, arith}
use Rattle.std.specs.List.{concat, slice_get}
use Rattle.std.proofs.lemmas.List.{drop_all}
use Rattle.scasp_recheck.specs.Meaning.{certs_in, program_of}
use Rattle.scasp_command_recheck.specs.Lines.{line_at, lines_by}
use Rattle.scasp_command_recheck.proofs.LineLemmas.{lines-next, lines-none}
use Rattle.scasp_command_recheck.proofs.blocks.Blocks.put_lines.Goals as goal

pub loop-place-preserved : goal.loop-place-preserved
loop-place-preserved c =
    let b = c.args.self.now in
    let p = program_of b.recheck in
    let cs = certs_in b.recheck in
    let i = c.loop-place.place in
    let rest = concat (lines_by p (drop (i + 1) b.numbers) (drop (i + 1) cs)) in
    ap (λ z. z ++ rest) c.in_ok-put_line.ensures
    ∙ append_assoc c.loop-place.text.items (line_at p (slice_get b.numbers i) (slice_get cs i)) rest
    ∙ ap (λ z. c.loop-place.text.items ++ z) (sym (lines-next p b.numbers cs i)) ∙ c.loop-place.invariant

pub returns : goal.returns
returns c =
    let b = c.args.self.now in
    let p = program_of b.recheck in
    let cs = certs_in b.recheck in
    let i = c.loop-place.place in
    let none : drop i cs ≡ [] = drop_all i cs (omega (arith, c.loop-place-test.false, c.len-place-end.ensures)) in
    sym (append-nil c.loop-place.text.items)
    ∙ sym (ap (λ z. c.loop-place.text.items ++ z) ((λ j. concat (lines_by p (drop i b.numbers) (none j))) ∙ ap concat (lines-none p (drop i b.numbers))))
    ∙ c.loop-place.invariant
