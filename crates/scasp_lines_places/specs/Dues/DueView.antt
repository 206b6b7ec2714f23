-- The values that the product's dues are.
use Rattle.scasp_lines.specs.Dues.{Due as DueValue, goal, fact, nothing}
use Rattle.scasp_lines_places.specs.declared.dues.due.Due.{Due}
use Rattle.scasp_lines_places.specs.declared.dues.due.Due.TheVariants as due

abbrev pub due_value : Due → DueValue
due_value (due.Goal l) = goal l
due_value (due.Fact o) = fact o
due_value due.Nothing = nothing
