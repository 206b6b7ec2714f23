use Rattle.std.proofs.Common.{ℕ, List, subst, arith}
use Rattle.scasp_graph.specs.Inside.Graphs.{Marks, AreClear}
use Rattle.scasp_graph.specs.Inside.Partitions.{IsSource, ArePlaced}
use Rattle.scasp_graph.specs.declared.components.Member.{Member}
use Rattle.scasp_graph.specs.declared.graph.Edge.{Edge}
use Rattle.scasp_graph.proofs.ComponentLemmas.{known-more, free-stays, left-some}
use Rattle.scasp_graph.proofs.components.settle.Goals as goal

pub loop-alloc-preserved : goal.loop-alloc-preserved
loop-alloc-preserved c =
    let size : ℕ = c.args.ahead.now.size in
    let edges : List Edge = c.args.ahead.now.edges.items in
    let members : List Member = c.loop-alloc.known.members.items in
    let after : List Member = c.place.new.members.items in
    let free : Marks = c.loop-alloc.known.free.items in
    let rest : Marks = c.place.new.free.items in
    let from : Marks = c.find_source.new.from.items in
    let to : Marks = c.find_source.new.to.items in
    let left : ℕ = c.loop-alloc.known.left in
    let nodes : List ℕ = c.in_ok-nodes.nodes.items in
    let source : IsSource size edges free from to nodes = subst (λ (z : Marks). IsSource size edges z from to nodes) c.deref.ensures.value c.in_ok-nodes.ensures in
    let made : ArePlaced members free left nodes from to after rest =
    subst (λ (z : Marks). ArePlaced members free left nodes from z after rest) c.deref-in-loop-alloc-3.ensures.value
    (subst (λ (z : Marks). ArePlaced members free left nodes z c.deref-in-loop-alloc-3.result.now after rest) c.deref-in-loop-alloc-2.ensures.value
    (subst (λ z. ArePlaced members free left z c.deref-in-loop-alloc-2.result.now c.deref-in-loop-alloc-3.result.now after rest) c.deref-in-loop-alloc.ensures.value c.place.ensures)) in
    record {
      known = record {
        known = known-more size edges c.requires.ahead.ends members after free rest from to left nodes c.loop-alloc.invariant.known.known source made;
        from = subst (λ z. AreClear z c.clear.new.marks.items) source.back.sized c.clear.ensures;
        to = subst (λ z. AreClear z c.clear-in-loop-alloc.new.marks.items) source.ahead.sized c.clear-in-loop-alloc.ensures;
      };
      stays =
          λ v h.
          free-stays size edges c.requires.ahead.ends members after free rest from to left nodes c.loop-alloc.invariant.known.known source made v
          (c.loop-alloc.invariant.stays v h);
    }

pub loop-alloc-smaller : goal.loop-alloc-smaller
loop-alloc-smaller c =
    let size : ℕ = c.args.ahead.now.size in
    let edges : List Edge = c.args.ahead.now.edges.items in
    let members : List Member = c.loop-alloc.known.members.items in
    let after : List Member = c.place.new.members.items in
    let free : Marks = c.loop-alloc.known.free.items in
    let rest : Marks = c.place.new.free.items in
    let from : Marks = c.find_source.new.from.items in
    let to : Marks = c.find_source.new.to.items in
    let left : ℕ = c.loop-alloc.known.left in
    let nodes : List ℕ = c.in_ok-nodes.nodes.items in
    let source : IsSource size edges free from to nodes = subst (λ (z : Marks). IsSource size edges z from to nodes) c.deref.ensures.value c.in_ok-nodes.ensures in
    let made : ArePlaced members free left nodes from to after rest =
    subst (λ (z : Marks). ArePlaced members free left nodes from z after rest) c.deref-in-loop-alloc-3.ensures.value
    (subst (λ (z : Marks). ArePlaced members free left nodes z c.deref-in-loop-alloc-3.result.now after rest) c.deref-in-loop-alloc-2.ensures.value
    (subst (λ z. ArePlaced members free left z c.deref-in-loop-alloc-2.result.now c.deref-in-loop-alloc-3.result.now after rest) c.deref-in-loop-alloc.ensures.value c.place.ensures)) in
    let some = left-some size edges c.requires.ahead.ends members after free rest from to left nodes c.loop-alloc.invariant.known.known source made in
    omega (arith, some)
