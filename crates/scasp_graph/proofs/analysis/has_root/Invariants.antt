use Rattle.std.proofs.Common.{◌≡◌, nat_eq, drop}
use Rattle.std.specs.List.{list_any}
use Rattle.scasp_syntax.specs.Programs.{body_preds}
use Rattle.scasp_graph.specs.Inside.Places.{root_in}
use Rattle.scasp_graph.proofs.analysis.has_root.Given as goal

abbrev pub invariant-loop-item : goal.invariant-loop-item
invariant-loop-item l =
    list_any (λ q. nat_eq (root_in l.preds l.members q) l.root) (body_preds (drop l.item-index l.item-items))
    ≡ list_any (λ q. nat_eq (root_in l.preds l.members q) l.root) (body_preds l.item-items)
