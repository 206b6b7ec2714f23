use Rattle.std.proofs.Common.{◌∙◌, ◌<◌, length, get_or, sym, arith}
use Rattle.std.proofs.lemmas.List.{get_or_default, length-map}
use Rattle.scasp_print_shared.specs.Inside.Lines.{read, read_all}
use Rattle.scasp_print_shared.proofs.SearchLemmas.{no_root}
use Rattle.scasp_print_shared.proofs.LineLemmas.{no_line, read-at}
use Rattle.scasp_print_shared.proofs.WalkLemmas.{a-copy, no-copy}
use Rattle.scasp_print_shared.proofs.walk.put_next.Goals as goal

pub returns-in_ok-put_copy-in-Some : goal.returns-in_ok-put_copy-in-Some
returns-in_ok-put_copy-in-Some c =
    let ls = c.args.lines.now in
    let line = c.args.line in
    let within : line < length (read_all ls) = omega (arith, c.requires.within, length-map ls read) in
    let x = get_or ls line no_line in
    a-copy _ _ (read_all ls) line (read x) _ (get_or c.args.marks.now line no_root).count within
    (read-at ls line x (get_or_default ls line no_line x c.requires.within))
    (sym c.in_ok-copy.ensures ∙ c.in-Some.is) (c.requires.marks.counts line no_root within) c.in_ok-put_copy-in-Some.ensures

pub returns-in_ok-put_line-in-None : goal.returns-in_ok-put_line-in-None
returns-in_ok-put_line-in-None c =
    let ls = c.args.lines.now in
    let line = c.args.line in
    let within : line < length (read_all ls) = omega (arith, c.requires.within, length-map ls read) in
    let x = get_or ls line no_line in
    no-copy _ _ (read_all ls) line (read x) within
    (read-at ls line x (get_or_default ls line no_line x c.requires.within))
    (sym c.in_ok-copy.ensures ∙ c.in-None.is) c.in_ok-put_line-in-None.ensures
