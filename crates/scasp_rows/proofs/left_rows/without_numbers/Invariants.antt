use Rattle.std.proofs.Common.{◌≡◌, List, ◌++◌, map}
use Rattle.scasp_num.specs.Linear.{Linear}
use Rattle.scasp_rows.specs.declared.state.Standing.{Standing}
use Rattle.scasp_rows.proofs.left_rows.without_numbers.Given as goal

abbrev pub invariant-loop-r : goal.invariant-loop-r
invariant-loop-r l = (l.rows ++ map (λ (r : Standing). r.row) l.r-iterator.rest.items) ≡ map (λ (r : Standing). r.row) l.fn.standing
