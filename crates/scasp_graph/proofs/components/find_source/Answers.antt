use Rattle.std.proofs.Common.{◌≡◌, ℕ, ◌<◌, true, false, List, length, get_or, map, subst, arith}
use Rattle.scasp_graph.specs.Inside.Components.{turned}
use Rattle.scasp_graph.specs.Inside.Graphs.{Marks, is_marked, IsReach}
use Rattle.scasp_graph.specs.declared.graph.Edge.{Edge}
use Rattle.scasp_graph.proofs.ComponentLemmas.{listed-marked, reach-below, searched, source-found, source-smaller}
use Rattle.scasp_graph.proofs.components.find_source.Goals as goal
use Rattle.std.specs.List.{Contains}

pub loop-next-init : goal.loop-next-init
loop-next-init c =
    let size : ℕ = c.args.ahead.now.size in
    let edges : List Edge = c.args.ahead.now.edges.items in
    let from : Marks = c.search.new.marks.items in
    searched size edges c.args.behind.now.edges.items c.args.free.now from c.search-2.new.marks.items c.in_ok-leading.leading.items c.in_ok-nodes.nodes.items c.args.start
    c.requires.turned
    (subst (λ z. IsReach z c.args.behind.now.edges.items c.args.free.now c.args.start from c.in_ok-leading.leading.items) c.requires.sizes c.in_ok-leading.ensures)
    (subst (λ z. IsReach size edges z c.args.start c.search-2.new.marks.items c.in_ok-nodes.nodes.items) c.deref.ensures.value c.in_ok-nodes.ensures)

pub loop-next-preserved : goal.loop-next-preserved
loop-next-preserved c =
    let size : ℕ = c.args.ahead.now.size in
    let edges : List Edge = c.args.ahead.now.edges.items in
    let from : Marks = c.search-in-Some.new.marks.items in
    searched size edges c.args.behind.now.edges.items c.args.free.now from c.search-in-Some-2.new.marks.items c.in_ok-leading-2.leading.items c.in_ok-nodes-2.nodes.items c.in-Some.next
    c.requires.turned
    (subst (λ z. IsReach z c.args.behind.now.edges.items c.args.free.now c.in-Some.next from c.in_ok-leading-2.leading.items) c.requires.sizes c.in_ok-leading-2.ensures)
    (subst (λ z. IsReach size edges z c.in-Some.next c.search-in-Some-2.new.marks.items c.in_ok-nodes-2.nodes.items) c.deref-in-Some-3.ensures.value c.in_ok-nodes-2.ensures)

pub loop-next-smaller : goal.loop-next-smaller
loop-next-smaller c =
    let size : ℕ = c.args.ahead.now.size in
    let edges : List Edge = c.args.ahead.now.edges.items in
    let free : Marks = c.args.free.now in
    let after : Marks = c.search-in-Some.new.marks.items in
    let later : List ℕ = c.in_ok-leading-2.leading.items in
    let back : IsReach size (map turned edges) free c.in-Some.next after later =
    subst (λ z. IsReach size z free c.in-Some.next after later) c.requires.turned
    (subst (λ z. IsReach z c.args.behind.now.edges.items free c.in-Some.next after later) c.requires.sizes c.in_ok-leading-2.ensures) in
    let listed : Contains c.loop-next.leading.items c.in-Some.next = subst (λ z. Contains z c.in-Some.next) c.deref-in-loop-next.ensures.value c.in-Some.ensures.0 in
    let unmarked : is_marked c.loop-next.to.items c.in-Some.next ≡ false = subst (λ (z : Marks). is_marked z c.in-Some.next ≡ false) c.deref-in-loop-next-2.ensures.value c.in-Some.ensures.1 in
    source-smaller size edges free c.loop-next.from.items c.loop-next.to.items after c.loop-next.leading.items c.loop-next.nodes.items later
    c.loop-next.invariant.start c.in-Some.next c.loop-next.invariant.back c.loop-next.invariant.ahead back listed unmarked

pub search-requires-in-Some-clause-start : goal.search-requires-in-Some-clause-start
search-requires-in-Some-clause-start c =
    let size : ℕ = c.args.ahead.now.size in
    let edges : List Edge = map turned c.args.ahead.now.edges.items in
    let listed : Contains c.loop-next.leading.items c.in-Some.next = subst (λ z. Contains z c.in-Some.next) c.deref-in-loop-next.ensures.value c.in-Some.ensures.0 in
    let marked = listed-marked size edges c.args.free.now c.loop-next.invariant.start c.loop-next.from.items c.loop-next.leading.items c.loop-next.invariant.back c.in-Some.next listed in
    let below = reach-below size edges c.args.free.now c.loop-next.invariant.start c.loop-next.from.items c.loop-next.leading.items c.loop-next.invariant.back c.in-Some.next marked in
    omega (arith, below, c.requires.sizes)

pub search-requires-in-Some-clause-inside : goal.search-requires-in-Some-clause-inside
search-requires-in-Some-clause-inside c =
    let size : ℕ = c.args.ahead.now.size in
    let edges : List Edge = map turned c.args.ahead.now.edges.items in
    let listed : Contains c.loop-next.leading.items c.in-Some.next = subst (λ z. Contains z c.in-Some.next) c.deref-in-loop-next.ensures.value c.in-Some.ensures.0 in
    c.loop-next.invariant.back.within c.in-Some.next
    (listed-marked size edges c.args.free.now c.loop-next.invariant.start c.loop-next.from.items c.loop-next.leading.items c.loop-next.invariant.back c.in-Some.next listed)

pub returns : goal.returns
returns c =
    let all = subst (λ (z : Marks). (k : ℕ) → k < length c.deref-in-loop-next.result.now → is_marked z (get_or c.deref-in-loop-next.result.now k 0) ≡ true) c.deref-in-loop-next-2.ensures.value c.in_default.ensures in
    source-found c.args.ahead.now.size c.args.ahead.now.edges.items c.args.free.now c.loop-next.from.items c.loop-next.to.items c.loop-next.leading.items c.loop-next.nodes.items c.loop-next.invariant
    (subst (λ (z : List ℕ). (k : ℕ) → k < length z → is_marked c.loop-next.to.items (get_or z k 0) ≡ true) c.deref-in-loop-next.ensures.value all)
