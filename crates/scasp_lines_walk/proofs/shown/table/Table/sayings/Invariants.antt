use Rattle.std.proofs.Common.{◌≡◌, ◌++◌, map, drop}
use Rattle.std.specs.List.{flat_map}
use Rattle.scasp_lines_walk.specs.Shown.Standings.{told_by}
use Rattle.scasp_lines_walk.specs.Shown.TableView.{standing_of, told_from}
use Rattle.scasp_lines_walk.proofs.shown.table.Table.sayings.Given as goal

abbrev pub invariant-loop-row : goal.invariant-loop-row
invariant-loop-row l =
    map told_from l.all.items ++ flat_map told_by (map standing_of (drop l.row-index l.row-items)) ≡ flat_map told_by (map standing_of l.row-items)
