use Rattle.std.proofs.Common.{◌∙◌, ap, sym}
use Rattle.scasp_cert.proofs.ViewLemmas.{neg-is, pos-is}
use Rattle.scasp_cert.specs.View.{covers_of, tree_of, trees_of}
use Rattle.scasp_lines.proofs.CountLemmas.{count-listed}
use Rattle.scasp_lines_walk.specs.Shown.Inside.Ends.{parts_of_node}
use Rattle.scasp_lines_walk.proofs.ShownLemmas.GatherLemmas.{covering-counted}
use Rattle.scasp_lines_walk.proofs.shown.ends.parts_of_node.Goals as goal

pub returns-in-Pos : goal.returns-in-Pos
returns-in-Pos c =
    let k = c.in-Pos in
    c.len.ensures ∙ sym (count-listed (trees_of k.children)) ∙ ap parts_of_node (sym (pos-is k.atom k.rule k.terms k.children) ∙ ap tree_of (sym k.is))

pub returns-in-Neg : goal.returns-in-Neg
returns-in-Neg c =
    let k = c.in-Neg in
    c.len-in-Neg.ensures ∙ sym (covering-counted (covers_of k.covers)) ∙ ap parts_of_node (sym (neg-is k.atom k.covers) ∙ ap tree_of (sym k.is))
