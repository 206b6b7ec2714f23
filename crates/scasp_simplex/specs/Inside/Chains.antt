-- Rows that steps add behind others.
use Rattle.std.specs.Prelude.{◌≡◌, Some, List, ◌++◌}
use Rattle.scasp_num.specs.declared.hints.Step.{Step}
use Rattle.scasp_list.specs.Each.{Each}
use Rattle.scasp_num.specs.Linear.{Linear}
use Rattle.scasp_rows.specs.Steps.{StepInRange, with_steps}

-- the steps add these rows, by multipliers in range
abbrev pub Add : List Linear → List Step → List Linear → Type 0
Add rows steps added = (with_steps rows steps ≡ Some (rows ++ added)) × Each StepInRange steps
