use Rattle.std.proofs.Common.{◌≡◌, ◌∙◌, ℕ, Bool, true, false, not, Some, ◌-◌, ◌<◌, List, length, get_or, ap, sym, subst, arith}
use Rattle.std.proofs.lemmas.List.{get_or_default}
use Rattle.scasp_graph.specs.Inside.Graphs.{edge_at, IsLastFrom, Marks, mark_of, is_marked}
use Rattle.scasp_graph.specs.Inside.Searching.{with_mark, with_node}
use Rattle.scasp_syntax.specs.Same.{same_bool}
use Rattle.scasp_graph.specs.declared.graph.Edge.{Edge}
use Rattle.scasp_graph.proofs.ReachLemmas.{going-first, next-below, queue-below, visiting-first, visiting-more}
use Rattle.scasp_graph.proofs.graph.Graph.search.Goals as goal

pub loop-done-init : goal.loop-done-init
loop-done-init c =
    going-first c.args.self.now.size c.args.self.now.edges.items c.args.inside.now c.args.start c.args.marks.now.items c.mark.new.marks.items
    c.new-queue.result.items c.mark.new.queue.items c.requires.start c.requires.inside c.requires.clear c.new-queue.ensures.items c.in_ok-mark.ensures.marks c.in_ok-mark.ensures.queue

pub parity_of-parity-requires : goal.parity_of-parity-requires
parity_of-parity-requires c =
    let queue : List ℕ = c.loop-done.queue.items in
    let more : c.loop-done.done < length queue = omega arith in
    let below = next-below c.args.self.now.size c.args.self.now.edges.items c.args.inside.now c.args.start c.loop-done.marks.items queue c.loop-done.done c.loop-done.invariant more in
    let node : c.index-node.result.now ≡ get_or queue c.loop-done.done 0 = c.index-node.ensures ∙ get_or_default queue c.loop-done.done c.index-node.result.now 0 more in
    let same = ap length c.deref.ensures.value in
    let sized = c.loop-done.invariant.found.sized in
    omega (arith, below, node, same, sized)

pub index-at-requires : goal.index-at-requires
index-at-requires c =
    let queue : List ℕ = c.loop-done.queue.items in
    let more : c.loop-done.done < length queue = omega arith in
    let below = next-below c.args.self.now.size c.args.self.now.edges.items c.args.inside.now c.args.start c.loop-done.marks.items queue c.loop-done.done c.loop-done.invariant more in
    let node : c.index-node.result.now ≡ get_or queue c.loop-done.done 0 = c.index-node.ensures ∙ get_or_default queue c.loop-done.done c.index-node.result.now 0 more in
    omega (arith, below, node, c.requires.graph.firsts)

pub loop-at-init : goal.loop-at-init
loop-at-init c =
    let queue : List ℕ = c.loop-done.queue.items in
    let edges : List Edge = c.args.self.now.edges.items in
    let node : ℕ = c.index-node.result.now in
    let more : c.loop-done.done < length queue = omega arith in
    let below = next-below c.args.self.now.size edges c.args.inside.now c.args.start c.loop-done.marks.items queue c.loop-done.done c.loop-done.invariant more in
    let is : node ≡ get_or queue c.loop-done.done 0 = c.index-node.ensures ∙ get_or_default queue c.loop-done.done node 0 more in
    let within : node < c.args.self.now.size = omega (arith, below, is) in
    let listed : node < length c.args.self.now.first.items = omega (arith, within, c.requires.graph.firsts) in
    let P : ℕ → Type 0 = λ k. IsLastFrom edges node (length edges) k in
    let Q : Marks → Type 0 = λ ms. is_marked ms node ≡ true → mark_of ms node ≡ Some c.parity_of-parity.result in
    let at : c.index-at.result.now ≡ get_or c.args.self.now.first.items node 0 = c.index-at.ensures ∙ get_or_default c.args.self.now.first.items node c.index-at.result.now 0 listed in
    visiting-first c.args.self.now.size edges c.args.inside.now c.args.start c.loop-done.marks.items queue c.loop-done.done node c.parity_of-parity.result c.index-at.result.now
    c.loop-done.invariant more is (subst Q c.deref.ensures.value c.parity_of-parity.ensures.marked) (subst P (sym at) (c.requires.graph.first node within))

pub loop-at-preserved : goal.loop-at-preserved
loop-at-preserved c =
    let edges : List Edge = c.args.self.now.edges.items in
    let marks : Marks = c.loop-at.marks.items in
    let queue : List ℕ = c.loop-at.queue.items in
    let at : ℕ = c.loop-at.at in
    let edge : Edge = c.index-edge.result.now in
    let parity : Bool = c.parity_of-parity.result in
    let here : at - 1 < length edges = let w = c.loop-at.invariant.followed.within in omega arith in
    let is : edge ≡ edge_at edges (at - 1) = c.index-edge.ensures ∙ get_or_default edges (at - 1) edge (record { from = 0; to = 0; negated = false }) here in
    let after : c.mark-in-loop-at.new.marks.items ≡ with_mark c.args.inside.now marks (edge_at edges (at - 1)).to (not (same_bool parity (edge_at edges (at - 1)).negated)) =
    c.in_ok-mark-2.ensures.marks ∙ ap (λ z. with_mark c.args.inside.now marks edge.to z) c.differ.ensures ∙ ap (λ (z : Edge). with_mark c.args.inside.now marks z.to (not (same_bool parity z.negated))) is in
    let queued : c.mark-in-loop-at.new.queue.items ≡ with_node c.args.inside.now marks queue (edge_at edges (at - 1)).to =
    c.in_ok-mark-2.ensures.queue ∙ ap (λ (z : Edge). with_node c.args.inside.now marks queue z.to) is in
    let listed : at - 1 < length c.args.self.now.link.items = omega (arith, here, c.requires.graph.links) in
    let next : c.index-at-in-loop-at.result.now ≡ get_or c.args.self.now.link.items (at - 1) 0 =
    c.index-at-in-loop-at.ensures ∙ get_or_default c.args.self.now.link.items (at - 1) c.index-at-in-loop-at.result.now 0 listed in
    let P : ℕ → Type 0 = λ k. IsLastFrom edges (edge_at edges (at - 1)).from (at - 1) k in
    visiting-more c.args.self.now.size edges c.args.inside.now c.args.start marks c.mark-in-loop-at.new.marks.items queue c.mark-in-loop-at.new.queue.items c.loop-done.done
    c.index-node.result.now parity at c.index-at-in-loop-at.result.now c.requires.graph.ends c.loop-at.invariant (omega arith) after queued
    (subst P (sym next) (c.requires.graph.link (at - 1) here))

pub loop-done-smaller : goal.loop-done-smaller
loop-done-smaller c =
    let h = queue-below c.args.self.now.size c.args.self.now.edges.items c.args.inside.now c.args.start c.loop-at.marks.items c.loop-at.queue.items c.loop-at.invariant.going.found in
    let m : c.loop-done.done < length c.loop-at.queue.items = c.loop-at.invariant.more in
    omega (arith, h, m)
