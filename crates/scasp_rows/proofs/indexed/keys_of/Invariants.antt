use Rattle.std.proofs.Common.{◌≡◌, take}
use Rattle.std.specs.HashSet.{contains_by}
use Rattle.std.specs.List.{list_any}
use Rattle.scasp_num.specs.Linear.{Linear}
use Rattle.scasp_num.specs.SameRow.{same_row}
use Rattle.scasp_rows.proofs.indexed.keys_of.Given as goal

abbrev pub invariant-loop-r : goal.invariant-loop-r
invariant-loop-r l = (q : Linear) → contains_by (λ k. same_row k.row q) l.keys ≡ list_any (λ o. same_row o.row q) (take l.r-index l.rows)
