use Rattle.std.proofs.Common.{◌∙◌, ℕ, Bool, true, false, not, ◌<◌, List, length, sym}
use Rattle.scasp_syntax.specs.Same.{same_bool}
use Rattle.scasp_graph.specs.Inside.Components.{member_at}
use Rattle.scasp_graph.specs.Inside.Graphs.{edge_at}
use Rattle.scasp_graph.specs.Inside.Levels.{root_from}
use Rattle.scasp_graph.specs.declared.components.Member.{Member}
use Rattle.scasp_graph.specs.declared.graph.Edge.{Edge}
use Rattle.scasp_graph.proofs.LevelLemmas.{odd-more, odd-on, root-below, fit-from}
use Rattle.scasp_graph.proofs.levels.find_odd.Goals as goal
use Rattle.scasp_graph.proofs.levels.find_odd.Goals.{then-from-to+then-differ, else-from-to, else-from-to-via-then-from-to+else-differ, else-from-to-via-else-from-to}

pub loop-edge-preserved : goal.loop-edge-preserved
loop-edge-preserved c =
    let size : ℕ = length c.args.members.now in
    let edges : List Edge = c.args.edges.now in
    let members : List Member = c.args.members.now in
    let odd : List Bool = c.loop-edge.odd.items in
    let n : ℕ = c.loop-edge.edge-index in
    let from-root : root_from edges members n < size = root-below size edges members c.requires.components (edge_at edges n).from (c.requires.ends.from n c.loop-edge-test.true) in
    let to : Member = member_at members (edge_at edges n).to in
    let walked : Bool = not (same_bool (member_at members (edge_at edges n).from).parity (edge_at edges n).negated) in
    elim c.if-from-to.branch [
      | then-from-to+then-differ w ↦
          rw w.odd-is
          (odd-more size edges members odd n c.loop-edge.invariant c.loop-edge-test.true from-root (sym w.if-from-to.true) (fit-from to.parity c.differ-walked.result walked true c.differ-walked.ensures (sym w.differ.ensures ∙ w.if-differ.true)))
      | else-from-to w ↦
          rw w.odd-is
          (odd-on size edges members odd n c.loop-edge.invariant
          (elim w.else-from-to.branch [
            | else-from-to-via-then-from-to+else-differ w' ↦ λ s. fit-from to.parity c.differ-walked.result walked false c.differ-walked.ensures (sym w'.differ.ensures ∙ w'.if-differ.false)
            | else-from-to-via-else-from-to w' ↦ λ s. absurd (w'.if-from-to.false (sym s))
          ]))
    ]
