use Rattle.std.proofs.Common.{◌≡◌, ◌∙◌, ℕ, Bool, List, map, ap, sym, subst}
use Rattle.scasp_syntax.specs.declared.atom.Pred.{Pred}
use Rattle.scasp_graph.specs.Inside.Components.{AreComponents}
use Rattle.scasp_graph.specs.Inside.Graphs.{EndsBelow}
use Rattle.scasp_graph.specs.Inside.Levels.{AreLevels, AreOdd}
use Rattle.scasp_graph.specs.Inside.Places.{numbered_edge, entries_from, odd_from}
use Rattle.scasp_graph.specs.OddRules.{AreOddRules}
use Rattle.scasp_graph.specs.RightMap.{IsRightMap}
use Rattle.scasp_graph.specs.Walks.{dependencies}
use Rattle.scasp_graph.specs.declared.components.Member.{Member}
use Rattle.scasp_graph.specs.declared.graph.Edge.{Edge}
use Rattle.scasp_graph.proofs.AnalysisLemmas.{Known, edges-below, map-right, odd-right}
use Rattle.scasp_graph.proofs.analysis.analyse.Goals as goal

pub parts_of-requires : goal.parts_of-requires
parts_of-requires c =
    subst (λ n. EndsBelow n c.in_ok-edges.edges.items) (sym c.len.ensures)
    (edges-below c.args.program.now c.in_ok-preds.preds c.in_ok-edges.edges.items (c.in_ok-preds.ensures ∙ c.in_ok-numbers.ensures)
    (c.in_ok-edges.ensures ∙ ap (λ z. map (numbered_edge z) (dependencies c.args.program.now)) (sym c.in_ok-preds.ensures)))

pub returns : goal.returns
returns c =
    let preds : List Pred = c.in_ok-preds.preds in
    let edges : List Edge = c.in_ok-edges.edges.items in
    let members : List Member = c.in_ok-parts.parts.members.items in
    let levels : List ℕ = c.in_ok-parts.parts.levels.items in
    let odd : List Bool = c.in_ok-parts.parts.odd.items in
    let known : Known c.args.program.now preds edges members levels odd = record {
      preds_are = c.in_ok-preds.ensures ∙ c.in_ok-numbers.ensures;
      edges_are = c.in_ok-edges.ensures ∙ ap (λ z. map (numbered_edge z) (dependencies c.args.program.now)) (sym c.in_ok-preds.ensures);
      components = subst (λ n. AreComponents n edges members) c.len.ensures c.in_ok-parts.ensures.components;
      levelled = subst (λ n. AreLevels n edges members levels) c.len.ensures c.in_ok-parts.ensures.levels;
      oddness = subst (λ n. AreOdd n edges members odd) c.len.ensures c.in_ok-parts.ensures.odd;
    } in
    let rules : c.in_ok-odd_rules.odd_rules ≡ odd_from preds members odd 1 c.args.program.now.clauses =
    c.in_ok-odd_rules.ensures ∙ ap (λ z. odd_from z c.deref.result.now c.deref-2.result.now 1 c.args.program.now.clauses) (sym c.in_ok-preds.ensures)
    ∙ ap (λ (ms : List Member). odd_from preds ms c.deref-2.result.now 1 c.args.program.now.clauses) c.deref.ensures.value
    ∙ ap (λ (bs : List Bool). odd_from preds members bs 1 c.args.program.now.clauses) c.deref-2.ensures.value in
    let entries : c.in_ok-map.map ≡ entries_from members levels odd 0 preds =
    c.in_ok-map.ensures ∙ ap (λ (ms : List Member). entries_from ms c.deref-4.result.now c.deref-5.result.now 0 preds) c.deref-3.ensures.value
    ∙ ap (λ (ls : List ℕ). entries_from members ls c.deref-5.result.now 0 preds) c.deref-4.ensures.value
    ∙ ap (λ (bs : List Bool). entries_from members levels bs 0 preds) c.deref-5.ensures.value in
    record {
      odd = subst (AreOddRules c.args.program.now) (sym rules) (odd-right c.args.program.now preds edges members levels odd known);
      right = subst (IsRightMap c.args.program.now) (sym entries) (map-right c.args.program.now preds edges members levels odd known);
    }
