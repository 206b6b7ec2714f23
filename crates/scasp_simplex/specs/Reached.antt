-- Steps that lead from rows to a false constant row.
use Rattle.std.specs.Prelude.{◌≡◌, true, Some, List, ◌++◌}
use Rattle.std.specs.List.{list_any}
use Rattle.scasp_num.specs.declared.hints.Step.{Step}
use Rattle.scasp_num.specs.Linear.{Linear}
use Rattle.scasp_rows.specs.Points.{is_false}
use Rattle.scasp_rows.specs.Steps.{with_steps}

-- one of the rows that the steps add, and not only one that was given, is a false constant row
abbrev pub AddsFalse : List Linear → List Step → Type 0
AddsFalse rows steps = (added : List Linear) × (with_steps rows steps ≡ Some (rows ++ added)) × (list_any is_false added ≡ true)
