use Rattle.std.proofs.Common.{◌≡◌, subst}
use Rattle.std.specs.Prelude.{OnOk}
use Rattle.scasp_search_trees.specs.Stacked.{built_of}
use Rattle.scasp_search_rules.specs.Successors.Trees.{Built}
use Rattle.scasp_skeleton.proofs.CopyLemmas.{neg-is_put, pos-is_put}
use Rattle.scasp_skeleton.proofs.copies.put_tree.Goals as goal

pub returns-in_ok-terms-in-Pos : goal.returns-in_ok-terms-in-Pos
returns-in_ok-terms-in-Pos c =
    subst (λ (x : Built). OnOk c.put_pos.result (built_of c.put_pos.new.stacks ≡ x))
    (pos-is_put c.in-Pos.atom c.in_ok-atom-in-Pos.atom c.in-Pos.rule c.len.result c.in-Pos.terms c.in_ok-terms-in-Pos.terms c.in-Pos.children c.args.node.now
    c.args.hint (built_of c.args.stacks.now) c.in_ok-atom-in-Pos.ensures c.in_ok-terms-in-Pos.ensures c.len.ensures c.in-Pos.is)
    c.put_pos.ensures

pub returns-in_ok-atom-in-Neg : goal.returns-in_ok-atom-in-Neg
returns-in_ok-atom-in-Neg c =
    subst (λ (x : Built). OnOk c.put_neg.result (built_of c.put_neg.new.stacks ≡ x))
    (neg-is_put c.in-Neg.atom c.in_ok-atom-in-Neg.atom c.len-in-Neg.result c.in-Neg.covers c.args.node.now c.args.hint (built_of c.args.stacks.now)
    c.in_ok-atom-in-Neg.ensures c.len-in-Neg.ensures c.in-Neg.is)
    c.put_neg.ensures
