use Rattle.std.proofs.Common.{◌≡◌, ◌∙◌, ℕ, List, ap, sym}
use Rattle.scasp_cert.specs.Trees.{Branch, Tree, head, leaf, listed, void}
use Rattle.scasp_cert.specs.View.{branch_of, case_step, cover_step, covers_step, node_step, nodes_step, trees_of}
use Rattle.scasp_cert.specs.declared.tree.Case.TheFolds.{fold-roll-Case}
use Rattle.scasp_cert.specs.declared.tree.Case.TheOpen.{Case-F}
use Rattle.scasp_cert.specs.declared.tree.Case.TheVariants as case
use Rattle.scasp_lines_places.specs.Places.View.{body_of, place_of}
use Rattle.scasp_checker_lines.specs.LineFaults.Whole.{whole}
use Rattle.scasp_checker.proofs.walk.lines.accept_case.Goals as goal

pub returns-in-Void : goal.returns-in-Void
returns-in-Void c =
    let k = c.in-Void in
    let is : branch_of c.args.case.now ≡ void k.hint =
    ap branch_of k.is ∙ ap branch_of (sym (case.rolls-Void k.hint))
    ∙ fold-roll-Case Branch Tree (ℕ × Branch) (List (ℕ × Branch)) (List Tree) case_step node_step cover_step covers_step nodes_step (Case-F.Void k.hint) in
    rw is (c.accept_void.ensures c.args.next (body_of c.args.body.now c.args.bare))

pub returns-in-Leaf : goal.returns-in-Leaf
returns-in-Leaf c =
    let k = c.in-Leaf in
    let is : branch_of c.args.case.now ≡ leaf k.item (listed (trees_of k.children)) =
    ap branch_of k.is ∙ ap branch_of (sym (case.rolls-Leaf k.item k.children))
    ∙ fold-roll-Case Branch Tree (ℕ × Branch) (List (ℕ × Branch)) (List Tree) case_step node_step cover_step covers_step nodes_step (Case-F.Leaf k.item k.children) in
    rw is (c.accept_leaf.ensures (whole c.args.tabled.now.common) c.args.next (place_of c.args.here.now) c.args.bare)

pub returns-in-Head : goal.returns-in-Head
returns-in-Head c =
    let k = c.in-Head in
    let is : branch_of c.args.case.now ≡ head (listed (trees_of k.children)) =
    ap branch_of k.is ∙ ap branch_of (sym (case.rolls-Head k.children))
    ∙ fold-roll-Case Branch Tree (ℕ × Branch) (List (ℕ × Branch)) (List Tree) case_step node_step cover_step covers_step nodes_step (Case-F.Head k.children) in
    rw is (c.accept_head.ensures (whole c.args.tabled.now.common) c.args.next (place_of c.args.here.now) c.args.bare)
