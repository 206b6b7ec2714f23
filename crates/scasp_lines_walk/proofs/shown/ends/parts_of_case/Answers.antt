use Rattle.std.proofs.Common.{◌∙◌, ap, sym}
use Rattle.scasp_cert.proofs.ViewLemmas.{head-is, leaf-is}
use Rattle.scasp_cert.specs.View.{branch_of, trees_of}
use Rattle.scasp_lines.proofs.CountLemmas.{count-listed}
use Rattle.scasp_lines_walk.specs.Shown.Inside.Ends.{parts_of_case}
use Rattle.scasp_lines_walk.proofs.shown.ends.parts_of_case.Goals as goal

pub returns-in-Leaf : goal.returns-in-Leaf
returns-in-Leaf c =
    let k = c.in-Leaf in
    c.len.ensures ∙ sym (count-listed (trees_of k.children)) ∙ ap parts_of_case (sym (leaf-is k.item k.children) ∙ ap branch_of (sym k.is))

pub returns-in-Head : goal.returns-in-Head
returns-in-Head c =
    let k = c.in-Head in
    c.len-in-Head.ensures ∙ sym (count-listed (trees_of k.children)) ∙ ap parts_of_case (sym (head-is k.children) ∙ ap branch_of (sym k.is))
