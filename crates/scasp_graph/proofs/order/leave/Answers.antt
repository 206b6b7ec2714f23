use Rattle.std.proofs.Common.{◌≡◌, ◌∙◌, ◌∷◌, ◌++◌, ℕ, ◌+◌, ◌-◌, ◌<◌, false, List, [], length, get_or, ap, sym, subst, arith, length-append}
use Rattle.std.proofs.lemmas.List.{get_or_default}
use Rattle.scasp_graph.specs.Inside.Graphs.{edge_at, AreBelow}
use Rattle.scasp_graph.specs.declared.graph.Edge.{Edge}
use Rattle.scasp_graph.proofs.OrderLemmas.{below-pop, below-push, below-enter, next-set, sum-falls}
use Rattle.scasp_graph.proofs.order.leave.Goals as goal

pub loop-node-preserved : goal.loop-node-preserved
loop-node-preserved c =
    let size : ℕ = c.args.graph.now.size in
    let edges : List Edge = c.args.graph.now.edges.items in
    let next : List ℕ = c.loop-node.next.items in
    let node : ℕ = c.in-Some.node in
    let number : ℕ = c.index-number.result.now in
    let popped = below-pop size c.loop-node.path.items c.pop.new.self.items node c.loop-node.invariant.path_below c.in-Some.ensures.items in
    let node-in : node < length next = let s = c.loop-node.invariant.nexts.sized in let b = popped.1 in omega (arith, s, b) in
    let is : number ≡ get_or next node 0 = c.index-number.ensures ∙ get_or_default next node number 0 node-in in
    let some = c.if-number-eq0.false in
    let here : number - 1 < length edges = let b = c.loop-node.invariant.nexts.within node popped.1 in omega (arith, is, b, some) in
    let link-in : number - 1 < length c.args.graph.now.link.items = let l = c.requires.graph.links in omega (arith, here, l) in
    let link : c.index.result.now ≡ get_or c.args.graph.now.link.items (number - 1) 0 =
    c.index.ensures ∙ get_or_default c.args.graph.now.link.items (number - 1) c.index.result.now 0 link-in in
    let before = (c.requires.graph.link (number - 1) here).before in
    let edge : c.index-else-number-eq0.result.now ≡ edge_at edges (number - 1) =
    c.index-else-number-eq0.ensures ∙ get_or_default edges (number - 1) c.index-else-number-eq0.result.now (record { from = 0; to = 0; negated = false }) here in
    let to : c.index-else-number-eq0.result.now.to < size =
    let b = c.requires.graph.ends.to (number - 1) here in let e = ap (λ (z : Edge). z.to) edge in omega (arith, b, e) in
    let pushed : c.push-else-number-eq0.new.self.items ≡ c.pop.new.self.items ++ node ∷ [] = c.in_ok-push-2.ensures.items in
    let pushed-below : AreBelow size c.push-else-number-eq0.new.self.items = subst (AreBelow size) (sym pushed) (below-push size c.pop.new.self.items node popped.0 popped.1) in
    let entered = below-enter size c.push-else-number-eq0.new.self.items c.enter-else-number-eq0.new.path.items c.index-else-number-eq0.result.now.to pushed-below to c.in_ok-enter-2.ensures.path in
    record {
      sized = c.in_ok-enter-2.ensures.seen ∙ c.loop-node.invariant.sized;
      nexts = next-set size edges next node c.index.result.now c.loop-node.invariant.nexts popped.1 (omega (arith, link, before, here));
      path_below = entered.0;
      order_below = c.loop-node.invariant.order_below;
    }

pub loop-node-smaller : goal.loop-node-smaller
loop-node-smaller c =
    let size : ℕ = c.args.graph.now.size in
    let edges : List Edge = c.args.graph.now.edges.items in
    let next : List ℕ = c.loop-node.next.items in
    let node : ℕ = c.in-Some.node in
    let number : ℕ = c.index-number.result.now in
    let popped = below-pop size c.loop-node.path.items c.pop.new.self.items node c.loop-node.invariant.path_below c.in-Some.ensures.items in
    let node-in : node < length next = let s = c.loop-node.invariant.nexts.sized in let b = popped.1 in omega (arith, s, b) in
    let is : number ≡ get_or next node 0 = c.index-number.ensures ∙ get_or_default next node number 0 node-in in
    let some = c.if-number-eq0.false in
    let here : number - 1 < length edges = let b = c.loop-node.invariant.nexts.within node popped.1 in omega (arith, is, b, some) in
    let link-in : number - 1 < length c.args.graph.now.link.items = let l = c.requires.graph.links in omega (arith, here, l) in
    let link : c.index.result.now ≡ get_or c.args.graph.now.link.items (number - 1) 0 =
    c.index.ensures ∙ get_or_default c.args.graph.now.link.items (number - 1) c.index.result.now 0 link-in in
    let before = (c.requires.graph.link (number - 1) here).before in
    let edge : c.index-else-number-eq0.result.now ≡ edge_at edges (number - 1) =
    c.index-else-number-eq0.ensures ∙ get_or_default edges (number - 1) c.index-else-number-eq0.result.now (record { from = 0; to = 0; negated = false }) here in
    let to : c.index-else-number-eq0.result.now.to < size =
    let b = c.requires.graph.ends.to (number - 1) here in let e = ap (λ (z : Edge). z.to) edge in omega (arith, b, e) in
    let pushed : c.push-else-number-eq0.new.self.items ≡ c.pop.new.self.items ++ node ∷ [] = c.in_ok-push-2.ensures.items in
    let pushed-below : AreBelow size c.push-else-number-eq0.new.self.items = subst (AreBelow size) (sym pushed) (below-push size c.pop.new.self.items node popped.0 popped.1) in
    let entered = below-enter size c.push-else-number-eq0.new.self.items c.enter-else-number-eq0.new.path.items c.index-else-number-eq0.result.now.to pushed-below to c.in_ok-enter-2.ensures.path in
    let falls = sum-falls next node c.index.result.now node-in (omega (arith, link, before, is, some)) in
    let long : length c.loop-node.path.items ≡ length c.pop.new.self.items + 1 = ap length c.in-Some.ensures.items ∙ length-append c.pop.new.self.items (node ∷ []) in
    let longer : length c.push-else-number-eq0.new.self.items ≡ length c.pop.new.self.items + 1 = ap length pushed ∙ length-append c.pop.new.self.items (node ∷ []) in
    let most = entered.1 in
    omega (arith, falls, long, longer, most)
