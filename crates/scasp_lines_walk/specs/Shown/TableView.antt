-- The values that the product's tables are.
use Rattle.std.specs.Borrow.{Bor}
use Rattle.std.specs.Prelude.{List, map}
use Rattle.scasp_checker_rules.specs.Told.{Told}
use Rattle.scasp_lines_places.specs.Places.Chains.{chained}
use Rattle.scasp_lines_places.specs.Places.View.{all_opened, around_of}
use Rattle.scasp_lines_walk.specs.Shown.Standings.{Shown, Standing, literal, other}
use Rattle.scasp_lines_walk.specs.declared.shown.table.Literal.{Literal}
use Rattle.scasp_lines_walk.specs.declared.shown.table.Row.{Row}
use Rattle.scasp_lines_walk.specs.declared.shown.table.Row.TheVariants as row
use Rattle.scasp_lines_walk.specs.declared.shown.table.Saying.{Saying}
use Rattle.scasp_lines_walk.specs.declared.shown.table.Table.{Table}

-- the literal that is told
abbrev pub told_of : Saying → Told
told_of s = record { at = s.at; positive = s.positive; atom = s.atom; opened = all_opened s.opened }

abbrev pub told_from : Bor Saying → Told
told_from s = told_of s.now

abbrev pub shown_of : Literal → Shown
shown_of l = record { told = told_of l.saying; behind = l.behind; firm = l.firm; around = map around_of (chained l.around) }

abbrev pub standing_of : Row → Standing
standing_of (row.Literal l) = literal (shown_of l)
standing_of (row.Other os) = other (all_opened os)

-- what stands on the lines, in order
abbrev pub table_value : Table → List Standing
table_value t = map standing_of t.rows.items
