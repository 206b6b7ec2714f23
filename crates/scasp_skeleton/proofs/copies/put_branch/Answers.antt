use Rattle.std.proofs.Common.{◌≡◌, subst}
use Rattle.std.specs.Prelude.{OnOk}
use Rattle.scasp_search_trees.specs.Stacked.{built_of}
use Rattle.scasp_search_rules.specs.Successors.Trees.{Built}
use Rattle.scasp_skeleton.proofs.CopyLemmas.{head-is_put, leaf-is_put}
use Rattle.scasp_skeleton.proofs.copies.put_branch.Goals as goal

pub returns-in-Leaf : goal.returns-in-Leaf
returns-in-Leaf c =
    subst (λ (x : Built). OnOk c.put_leaf.result (built_of c.put_leaf.new.stacks ≡ x))
    (leaf-is_put c.in-Leaf.item c.len.result c.in-Leaf.children c.args.case.now c.args.hint (built_of c.args.stacks.now) c.len.ensures c.in-Leaf.is)
    c.put_leaf.ensures

pub returns-in-Head : goal.returns-in-Head
returns-in-Head c =
    subst (λ (x : Built). OnOk c.put_head.result (built_of c.put_head.new.stacks ≡ x))
    (head-is_put c.len-in-Head.result c.in-Head.children c.args.case.now c.args.hint (built_of c.args.stacks.now) c.len-in-Head.ensures c.in-Head.is)
    c.put_head.ensures
