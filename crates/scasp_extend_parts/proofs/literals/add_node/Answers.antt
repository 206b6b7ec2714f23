use Rattle.std.proofs.Common.{◌≡◌, ◌∙◌, ℕ, true, false, List, ap, sym}
use Rattle.scasp_cert.specs.View.{case_step, cover_step, covers_of, covers_step, node_step, nodes_step, tree_of, trees_of}
use Rattle.scasp_cert.specs.Trees.{Branch, Tree, covering, listed, loop_tree, seen_tree, test_tree}
use Rattle.scasp_cert.specs.declared.tree.Case.TheFolds.{fold-roll-Node}
use Rattle.scasp_cert.specs.declared.tree.Case.TheOpen.{Node-F}
use Rattle.scasp_cert.specs.declared.tree.Node.TheVariants as node
use Rattle.scasp_cert.proofs.ViewLemmas.{neg-is, pos-is}
use Rattle.scasp_syntax.specs.declared.atom.Lit.{Lit}
use Rattle.scasp_syntax.specs.declared.con.Con.{Con}
use Rattle.scasp_syntax.specs.declared.hint.Hint.{Hint}
use Rattle.scasp_extend_instances.specs.View.{ways_of}
use Rattle.scasp_extend_levels.specs.Sets.{with_atoms}
use Rattle.scasp_lines.specs.Said.{Said, atoms_of}
use Rattle.scasp_syntax.specs.Tm.{items}
use Rattle.scasp_extend_parts.specs.Inside.{node_says}
use Rattle.scasp_extend_parts.specs.Obstacles.{unless_closed}
use Rattle.scasp_extend_parts.proofs.SaidLemmas.{negated-falses, negated-none, negated-trues, none-said, positive-falses, positive-none, positive-open, positive-trues}
use Rattle.scasp_extend_parts.proofs.literals.add_node.Goals as goal

loop-is : (l : Lit) (at : ℕ) → tree_of (node.Loop l at) ≡ loop_tree l at
loop-is l at =
    ap tree_of (sym (node.rolls-Loop l at))
    ∙ fold-roll-Node Branch Tree (ℕ × Branch) (List (ℕ × Branch)) (List Tree) case_step node_step cover_step covers_step nodes_step (Node-F.Loop l at)

seen-is : (l : Lit) (at : ℕ) → tree_of (node.Seen l at) ≡ seen_tree l at
seen-is l at =
    ap tree_of (sym (node.rolls-Seen l at))
    ∙ fold-roll-Node Branch Tree (ℕ × Branch) (List (ℕ × Branch)) (List Tree) case_step node_step cover_step covers_step nodes_step (Node-F.Seen l at)

test-is : (con : Con) (hint : Hint) → tree_of (node.Test con hint) ≡ test_tree con hint
test-is con hint =
    ap tree_of (sym (node.rolls-Test con hint))
    ∙ fold-roll-Node Branch Tree (ℕ × Branch) (List (ℕ × Branch)) (List Tree) case_step node_step cover_step covers_step nodes_step (Node-F.Test con hint)

pub returns-then-not-branch-clause-causes : goal.returns-then-not-branch-clause-causes
returns-then-not-branch-clause-causes c =
    let d = items c.args.domain.now in
    let ws = ways_of c.args.ways.now in
    ap (λ (t : Tree). unless_closed d c.args.at (node_says t ws)) (ap tree_of c.in-Pos.is ∙ pos-is c.in-Pos.atom c.in-Pos.rule c.in-Pos.terms c.in-Pos.children)
    ∙ positive-open c.in-Pos.atom c.in-Pos.rule c.in-Pos.terms (listed (trees_of c.in-Pos.children)) d c.args.at ws (sym c.in_ok-are_closed-in-Pos.ensures ∙ c.if-not-branch.true)

pub returns-in_ok-put_all-in-Pos-clause-causes : goal.returns-in_ok-put_all-in-Pos-clause-causes
returns-in_ok-put_all-in-Pos-clause-causes c =
    let d = items c.args.domain.now in
    let ws = ways_of c.args.ways.now in
    ap (λ (t : Tree). unless_closed d c.args.at (node_says t ws)) (ap tree_of c.in-Pos.is ∙ pos-is c.in-Pos.atom c.in-Pos.rule c.in-Pos.terms c.in-Pos.children)
    ∙ positive-none c.in-Pos.atom c.in-Pos.rule c.in-Pos.terms (listed (trees_of c.in-Pos.children)) d c.args.at ws (sym c.in_ok-are_closed-in-Pos.ensures ∙ c.if-not-branch.false)

pub returns-in_ok-put_all-in-Pos-clause-trues : goal.returns-in_ok-put_all-in-Pos-clause-trues
returns-in_ok-put_all-in-Pos-clause-trues c =
    let ws = ways_of c.args.ways.now in
    c.in_ok-put_all-in-Pos.ensures
    ∙ ap (with_atoms c.args.told.now.trues) (sym (ap (λ (t : Tree). atoms_of true (node_says t ws)) (ap tree_of c.in-Pos.is ∙ pos-is c.in-Pos.atom c.in-Pos.rule c.in-Pos.terms c.in-Pos.children) ∙ positive-trues c.in-Pos.atom c.in-Pos.rule c.in-Pos.terms (listed (trees_of c.in-Pos.children)) ws))

pub returns-in_ok-put_all-in-Pos-clause-falses : goal.returns-in_ok-put_all-in-Pos-clause-falses
returns-in_ok-put_all-in-Pos-clause-falses c =
    let ws = ways_of c.args.ways.now in
    ap (with_atoms c.args.told.now.falses) (sym (ap (λ (t : Tree). atoms_of false (node_says t ws)) (ap tree_of c.in-Pos.is ∙ pos-is c.in-Pos.atom c.in-Pos.rule c.in-Pos.terms c.in-Pos.children) ∙ positive-falses c.in-Pos.atom c.in-Pos.rule c.in-Pos.terms (listed (trees_of c.in-Pos.children)) ws))

pub returns-in_ok-put_all-in-Neg-clause-causes : goal.returns-in_ok-put_all-in-Neg-clause-causes
returns-in_ok-put_all-in-Neg-clause-causes c =
    let d = items c.args.domain.now in
    let ws = ways_of c.args.ways.now in
    ap (λ (t : Tree). unless_closed d c.args.at (node_says t ws)) (ap tree_of c.in-Neg.is ∙ neg-is c.in-Neg.atom c.in-Neg.covers) ∙ negated-none c.in-Neg.atom (covering (covers_of c.in-Neg.covers)) d c.args.at ws

pub returns-in_ok-put_all-in-Neg-clause-trues : goal.returns-in_ok-put_all-in-Neg-clause-trues
returns-in_ok-put_all-in-Neg-clause-trues c =
    let ws = ways_of c.args.ways.now in
    ap (with_atoms c.args.told.now.trues) (sym (ap (λ (t : Tree). atoms_of true (node_says t ws)) (ap tree_of c.in-Neg.is ∙ neg-is c.in-Neg.atom c.in-Neg.covers) ∙ negated-trues c.in-Neg.atom (covering (covers_of c.in-Neg.covers)) ws))

pub returns-in_ok-put_all-in-Neg-clause-falses : goal.returns-in_ok-put_all-in-Neg-clause-falses
returns-in_ok-put_all-in-Neg-clause-falses c =
    let ws = ways_of c.args.ways.now in
    c.in_ok-put_all-in-Neg.ensures
    ∙ ap (with_atoms c.args.told.now.falses) (sym (ap (λ (t : Tree). atoms_of false (node_says t ws)) (ap tree_of c.in-Neg.is ∙ neg-is c.in-Neg.atom c.in-Neg.covers) ∙ negated-falses c.in-Neg.atom (covering (covers_of c.in-Neg.covers)) ws))

pub returns-in-Loop-clause-causes : goal.returns-in-Loop-clause-causes
returns-in-Loop-clause-causes c =
    let ws = ways_of c.args.ways.now in
    ap (unless_closed (items c.args.domain.now) c.args.at) (ap (λ (t : Tree). node_says t ws) (ap tree_of c.in-Loop.is ∙ loop-is c.in-Loop.lit c.in-Loop.at) ∙ none-said ws)

pub returns-in-Loop-clause-trues : goal.returns-in-Loop-clause-trues
returns-in-Loop-clause-trues c =
    let ws = ways_of c.args.ways.now in
    ap (λ (ss : List Said). with_atoms c.args.told.now.trues (atoms_of true ss)) (sym (ap (λ (t : Tree). node_says t ws) (ap tree_of c.in-Loop.is ∙ loop-is c.in-Loop.lit c.in-Loop.at) ∙ none-said ws))

pub returns-in-Loop-clause-falses : goal.returns-in-Loop-clause-falses
returns-in-Loop-clause-falses c =
    let ws = ways_of c.args.ways.now in
    ap (λ (ss : List Said). with_atoms c.args.told.now.falses (atoms_of false ss)) (sym (ap (λ (t : Tree). node_says t ws) (ap tree_of c.in-Loop.is ∙ loop-is c.in-Loop.lit c.in-Loop.at) ∙ none-said ws))

pub returns-in-Seen-clause-causes : goal.returns-in-Seen-clause-causes
returns-in-Seen-clause-causes c =
    let ws = ways_of c.args.ways.now in
    ap (unless_closed (items c.args.domain.now) c.args.at) (ap (λ (t : Tree). node_says t ws) (ap tree_of c.in-Seen.is ∙ seen-is c.in-Seen.lit c.in-Seen.at) ∙ none-said ws)

pub returns-in-Seen-clause-trues : goal.returns-in-Seen-clause-trues
returns-in-Seen-clause-trues c =
    let ws = ways_of c.args.ways.now in
    ap (λ (ss : List Said). with_atoms c.args.told.now.trues (atoms_of true ss)) (sym (ap (λ (t : Tree). node_says t ws) (ap tree_of c.in-Seen.is ∙ seen-is c.in-Seen.lit c.in-Seen.at) ∙ none-said ws))

pub returns-in-Seen-clause-falses : goal.returns-in-Seen-clause-falses
returns-in-Seen-clause-falses c =
    let ws = ways_of c.args.ways.now in
    ap (λ (ss : List Said). with_atoms c.args.told.now.falses (atoms_of false ss)) (sym (ap (λ (t : Tree). node_says t ws) (ap tree_of c.in-Seen.is ∙ seen-is c.in-Seen.lit c.in-Seen.at) ∙ none-said ws))

pub returns-in-Test-clause-causes : goal.returns-in-Test-clause-causes
returns-in-Test-clause-causes c =
    let ws = ways_of c.args.ways.now in
    ap (unless_closed (items c.args.domain.now) c.args.at) (ap (λ (t : Tree). node_says t ws) (ap tree_of c.in-Test.is ∙ test-is c.in-Test.con c.in-Test.hint) ∙ none-said ws)

pub returns-in-Test-clause-trues : goal.returns-in-Test-clause-trues
returns-in-Test-clause-trues c =
    let ws = ways_of c.args.ways.now in
    ap (λ (ss : List Said). with_atoms c.args.told.now.trues (atoms_of true ss)) (sym (ap (λ (t : Tree). node_says t ws) (ap tree_of c.in-Test.is ∙ test-is c.in-Test.con c.in-Test.hint) ∙ none-said ws))

pub returns-in-Test-clause-falses : goal.returns-in-Test-clause-falses
returns-in-Test-clause-falses c =
    let ws = ways_of c.args.ways.now in
    ap (λ (ss : List Said). with_atoms c.args.told.now.falses (atoms_of false ss)) (sym (ap (λ (t : Tree). node_says t ws) (ap tree_of c.in-Test.is ∙ test-is c.in-Test.con c.in-Test.hint) ∙ none-said ws))
