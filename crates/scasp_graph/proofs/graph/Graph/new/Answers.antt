use Rattle.std.proofs.Common.{◌≡◌, ◌∙◌, ℕ, ◌+◌, ◌<◌, List, length, get_or, replicate, refl, ap, sym, subst, arith, rules}
use Rattle.std.proofs.Math.ListN.{set}
use Rattle.std.proofs.lemmas.List.{length-replicate, get_or-replicate, get_or_default}
use Rattle.scasp_graph.specs.Inside.Graphs.{EndsBelow, edge_at}
use Rattle.scasp_graph.specs.declared.graph.Edge.{Edge}
use Rattle.scasp_graph.proofs.GraphLemmas.{Linked, linked-none, linked-more, graph_linked}
use Rattle.scasp_graph.proofs.graph.Graph.new.Goals as goal

pub loop-place-init : goal.loop-place-init
loop-place-init c =
    let e : c.in_ok-first.first.items ≡ replicate c.args.size 0 = search rules in
    linked-none c.args.size c.deref-edge-items.result.now c.in_ok-first.first.items c.new-link.result.items
    (ap length e ∙ length-replicate c.args.size 0) c.new-link.ensures.items
    (λ u h. ap (λ z. get_or z u 0) e ∙ get_or-replicate c.args.size u 0 0 h)

pub loop-place-preserved : goal.loop-place-preserved
loop-place-preserved c =
    let edges : List Edge = c.deref-edge-items.result.now in
    let ends : EndsBelow c.args.size edges = subst (EndsBelow c.args.size) (sym c.deref-edge-items.ensures.value) c.requires in
    let u : ℕ = (edge_at edges c.loop-place.place).from in
    let below : u < c.args.size = ends.from c.loop-place.place c.loop-place-test.true in
    let within : u < length c.loop-place.first.items = omega (arith, below, c.loop-place.invariant.firsts) in
    let P : List ℕ → Type 0 = λ z. Linked c.args.size edges (set c.loop-place.first.items u (c.loop-place.place + 1)) z (c.loop-place.place + 1) in
    subst P (sym c.in_ok-push.ensures.items)
    (linked-more c.args.size edges c.loop-place.first.items c.loop-place.link.items c.loop-place.place u c.index.result.now
    c.loop-place.invariant refl below (c.index.ensures ∙ get_or_default c.loop-place.first.items u c.index.result.now 0 within))

pub returns-clause-graph : goal.returns-clause-graph
returns-clause-graph c =
    let edges : List Edge = c.deref-edge-items.result.now in
    let n : c.loop-place.place ≡ length edges = omega arith in
    let P : List Edge → Type 0 = λ z. Linked c.args.size z c.loop-place.first.items c.loop-place.link.items (length z) in
    let Q : ℕ → Type 0 = λ z. Linked c.args.size edges c.loop-place.first.items c.loop-place.link.items z in
    graph_linked (record { size = c.args.size; edges = c.args.edges; first = c.loop-place.first; link = c.loop-place.link })
    c.requires (subst P c.deref-edge-items.ensures.value (subst Q n c.loop-place.invariant))
