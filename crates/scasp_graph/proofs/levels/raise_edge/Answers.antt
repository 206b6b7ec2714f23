use Rattle.std.proofs.Common.{◌≡◌, ◌∙◌, ℕ, ◌+◌, ◌<◌, ◌≤◌, List, length, get_or, sym, subst, inl, inr, arith}
use Rattle.std.proofs.lemmas.List.{get_or_default}
use Rattle.std.proofs.Math.ListN.{set}
use Rattle.scasp_graph.specs.Inside.Graphs.{edge_at}
use Rattle.scasp_graph.specs.Inside.Levels.{root_from, root_to, AreRising}
use Rattle.scasp_graph.specs.declared.components.Member.{Member}
use Rattle.scasp_graph.specs.declared.graph.Edge.{Edge}
use Rattle.scasp_graph.proofs.LevelLemmas.{rising-up, root-below}
use Rattle.scasp_graph.proofs.levels.raise_edge.Goals as goal
use Rattle.scasp_graph.proofs.levels.raise_edge.Goals.{else-from-to-via-then-from-to+else-index, else-from-to-via-else-from-to}

pub returns-then-index-clause-rising : goal.returns-then-index-clause-rising
returns-then-index-clause-rising c =
    let size : ℕ = length c.args.levels.now.items in
    let edges : List Edge = c.args.edges.now in
    let members : List Member = c.args.members.now in
    let levels : List ℕ = c.args.levels.now.items in
    let n : ℕ = c.args.place in
    let from : ℕ = root_from edges members n in
    let to : ℕ = root_to edges members n in
    let from-in : from < length levels = root-below size edges members c.requires.components (edge_at edges n).from (c.requires.ends.from n c.requires.place) in
    let to-in : to < length levels = root-below size edges members c.requires.components (edge_at edges n).to (c.requires.ends.to n c.requires.place) in
    let a : c.index.result.now ≡ get_or levels from 0 = c.index.ensures ∙ get_or_default levels from c.index.result.now 0 from-in in
    let b : c.index-then-from-to.result.now ≡ get_or levels to 0 = c.index-then-from-to.ensures ∙ get_or_default levels to c.index-then-from-to.result.now 0 to-in in
    let value : c.index-then-index.result.now ≡ get_or levels to 0 = c.index-then-index.ensures ∙ get_or_default levels to c.index-then-index.result.now 0 to-in in
    let low : get_or levels from 0 ≤ get_or levels to 0 = let t = c.if-index.true in omega (arith, a, b, t) in
    let P : ℕ → Type 0 = λ z. AreRising size edges members (set levels from (z + 1)) in
    subst P (sym value) (rising-up size edges members levels n c.requires.ends c.requires.components c.requires.rising c.requires.place (λ e. c.if-from-to.true (sym e)) low).0

pub returns-clause-settled : goal.returns-clause-settled
returns-clause-settled c =
    λ h.
    let size : ℕ = length c.args.levels.now.items in
    let edges : List Edge = c.args.edges.now in
    let members : List Member = c.args.members.now in
    let levels : List ℕ = c.args.levels.now.items in
    let n : ℕ = c.args.place in
    let from : ℕ = root_from edges members n in
    let to : ℕ = root_to edges members n in
    let from-in : from < length levels = root-below size edges members c.requires.components (edge_at edges n).from (c.requires.ends.from n c.requires.place) in
    let to-in : to < length levels = root-below size edges members c.requires.components (edge_at edges n).to (c.requires.ends.to n c.requires.place) in
    elim c.else-from-to.branch [
      | else-from-to-via-then-from-to+else-index w ↦
          (let a : w.index.result.now ≡ get_or levels from 0 = w.index.ensures ∙ get_or_default levels from w.index.result.now 0 from-in in
          let b : w.index-then-from-to.result.now ≡ get_or levels to 0 = w.index-then-from-to.ensures ∙ get_or_default levels to w.index-then-from-to.result.now 0 to-in in
          let t = w.if-index.false in
          inr (omega (arith, a, b, t)))
      | else-from-to-via-else-from-to w ↦ inl (sym w.if-from-to.false)
    ]
