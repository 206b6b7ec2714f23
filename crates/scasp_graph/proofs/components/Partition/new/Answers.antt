use Rattle.std.proofs.Common.{◌≡◌, ◌∙◌, ℕ, false, is_some, length, get_or, replicate, Some, None, ap, rules}
use Rattle.std.proofs.lemmas.List.{length-replicate, get_or-replicate}
use Rattle.scasp_graph.specs.Inside.Graphs.{Marks}
use Rattle.scasp_graph.proofs.ComponentLemmas.{clear-none, known-none}
use Rattle.scasp_graph.proofs.components.Partition.new.Goals as goal

pub returns : goal.returns
returns c =
    λ edges.
    let size : ℕ = c.args.size in
    let sized : length c.in_ok-vec.field-0.items ≡ size = search rules in
    let free : c.in_ok-vec-2.field-0.items ≡ replicate c.args.size (Some false) = search rules in
    let from : c.in_ok-vec-3.field-0.items ≡ replicate c.args.size None = search rules in
    let to : c.in_ok-vec-4.field-0.items ≡ replicate c.args.size None = search rules in
    record {
      known =
          known-none size edges c.in_ok-vec.field-0.items c.in_ok-vec-2.field-0.items sized (ap length free ∙ length-replicate size (Some false))
          (λ u h. ap is_some (ap (λ (z : Marks). get_or z u None) free ∙ get_or-replicate size u (Some false) None h));
      from = clear-none size c.in_ok-vec-3.field-0.items from;
      to = clear-none size c.in_ok-vec-4.field-0.items to;
    }
