use Rattle.std.proofs.Common.{◌≡◌, ◌++◌, drop, map}
use Rattle.scasp_view_top.specs.Clauses.Clauses.{item_text}
use Rattle.scasp_view_top.proofs.clauses.item_texts.Given as goal

abbrev pub invariant-loop-item : goal.invariant-loop-item
invariant-loop-item l = l.texts ++ map (item_text l.names) (drop l.item-index l.items) ≡ map (item_text l.names) l.items
