use Rattle.std.proofs.Common.{◌≡◌, ◌∙◌, ℕ, List, ap, sym}
use Rattle.scasp_cert.specs.Trees.{Branch, Tree, head, leaf, listed, split}
use Rattle.scasp_cert.specs.View.{branch_of, case_step, cover_step, covers_step, node_step, nodes_step, trees_of}
use Rattle.scasp_cert.specs.declared.tree.Case.TheFolds.{fold-roll-Case}
use Rattle.scasp_cert.specs.declared.tree.Case.TheOpen.{Case-F}
use Rattle.scasp_cert.specs.declared.tree.Case.TheVariants as case
use Rattle.scasp_lines_walk.proofs.traversal.entering.below_case.Goals as goal

pub returns-in-Split-clause-waiting : goal.returns-in-Split-clause-waiting
returns-in-Split-clause-waiting c =
    let first = c.deref.ensures in
    let second = c.deref-in-Split.ensures in
    let k = c.in-Split in
    let is : branch_of c.args.case.now ≡ split k.con (branch_of c.deref.result.now) (branch_of c.deref-in-Split.result.now) =
    ap branch_of k.is ∙ ap branch_of (sym (case.rolls-Split k.con k.first k.second))
    ∙ fold-roll-Case Branch Tree (ℕ × Branch) (List (ℕ × Branch)) (List Tree) case_step node_step cover_step covers_step nodes_step (Case-F.Split k.con k.first k.second)
    ∙ (λ i. split k.con (branch_of (sym first i)) (branch_of (sym second i))) in
    rw is (c.below_split.ensures.waiting c.args.bare)

pub returns-in_ok-below_leaf-in-Leaf-clause-waiting : goal.returns-in_ok-below_leaf-in-Leaf-clause-waiting
returns-in_ok-below_leaf-in-Leaf-clause-waiting c =
    let k = c.in-Leaf in
    let body : c.as_ref.result.now ≡ c.args.body.now.value = c.as_ref.ensures in
    let is : branch_of c.args.case.now ≡ leaf k.item (listed (trees_of k.children)) =
    ap branch_of k.is ∙ ap branch_of (sym (case.rolls-Leaf k.item k.children))
    ∙ fold-roll-Case Branch Tree (ℕ × Branch) (List (ℕ × Branch)) (List Tree) case_step node_step cover_step covers_step nodes_step (Case-F.Leaf k.item k.children) in
    rw (is, ← body) c.in_ok-below_leaf-in-Leaf.ensures

pub returns-in_ok-below_head-in-Head-clause-waiting : goal.returns-in_ok-below_head-in-Head-clause-waiting
returns-in_ok-below_head-in-Head-clause-waiting c =
    let k = c.in-Head in
    let body : c.as_ref-in-Head.result.now ≡ c.args.body.now.value = c.as_ref-in-Head.ensures in
    let is : branch_of c.args.case.now ≡ head (listed (trees_of k.children)) =
    ap branch_of k.is ∙ ap branch_of (sym (case.rolls-Head k.children))
    ∙ fold-roll-Case Branch Tree (ℕ × Branch) (List (ℕ × Branch)) (List Tree) case_step node_step cover_step covers_step nodes_step (Case-F.Head k.children) in
    rw (is, ← body) c.in_ok-below_head-in-Head.ensures
