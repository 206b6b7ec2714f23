use Rattle.std.proofs.Common.{◌≡◌, ℕ, ◌+◌, List, length, sym, subst}
use Rattle.scasp_graph.specs.Inside.Levels.{AreRising, IsSettled}
use Rattle.scasp_graph.specs.declared.components.Member.{Member}
use Rattle.scasp_graph.specs.declared.graph.Edge.{Edge}
use Rattle.scasp_graph.proofs.LevelLemmas.{Raising, raising-up, raising-on}
use Rattle.scasp_graph.proofs.levels.raise.Goals as goal
use Rattle.scasp_graph.proofs.levels.raise.Goals.{then-raise_edge, else-raise_edge}

pub loop-place-preserved : goal.loop-place-preserved
loop-place-preserved c =
    let size : ℕ = length c.args.levels.now.items in
    let edges : List Edge = c.args.edges.now in
    let members : List Member = c.args.members.now in
    let first : List ℕ = c.args.levels.now.items in
    let levels : List ℕ = c.loop-place.levels.items in
    let after : List ℕ = c.raise_edge.new.levels.items in
    let n : ℕ = c.loop-place.place in
    let rising : AreRising size edges members after = subst (λ z. AreRising z edges members after) c.loop-place.invariant.rising.sized c.raise_edge.ensures.rising in
    elim c.if-raise_edge.branch [
      | then-raise_edge w ↦
          rw w.raised-is
          (raising-up size edges members first levels after c.loop-place.raised n c.loop-place.invariant rising (c.raise_edge.ensures.rises w.if-raise_edge.true))
      | else-raise_edge w ↦
          (let same : after ≡ levels = c.raise_edge.ensures.same w.if-raise_edge.false in
          let settled : IsSettled edges members levels n = subst (λ z. IsSettled edges members z n) same (c.raise_edge.ensures.settled w.if-raise_edge.false) in
          rw w.raised-is
          (subst (λ z. Raising size edges members first z c.loop-place.raised (n + 1)) (sym same)
          (raising-on size edges members first levels c.loop-place.raised n c.loop-place.invariant settled)))
    ]
