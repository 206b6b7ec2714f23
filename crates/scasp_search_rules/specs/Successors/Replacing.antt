-- Rows that the bindings of a state cannot replace within the range of the numbers. A row that follows from what is given stands in no list
-- that is asked when its variables are bound, so it is looked at where it is read for the last time.
use Rattle.std.specs.Prelude.{Bool, true, false, ◌&&◌, ◌||◌, not, is_none, List, [], ◌∷◌}
use Rattle.std.specs.List.{list_any}
use Rattle.scasp_search_rules.specs.declared.states.covers.Cover.{Cover}
use Rattle.scasp_search_rules.specs.declared.states.lines.Line.{Line}
use Rattle.scasp_search_rules.specs.declared.states.lines.Line.TheVariants as line
use Rattle.scasp_search_rules.specs.declared.states.state.State.{State}
use Rattle.scasp_search_rules.specs.declared.states.tasks.Task.{Task}
use Rattle.scasp_search_rules.specs.declared.states.tasks.Task.TheVariants as task
use Rattle.scasp_syntax.specs.Values.{Sub}
use Rattle.scasp_syntax.specs.declared.con.Con.{Con}
use Rattle.scasp_syntax.specs.declared.con.Con.TheVariants as con
use Rattle.scasp_unify.specs.ResolvedRows.{resolved_row}
use Rattle.scasp_search_rules.specs.Successors.Variables.{meaning, is_empty}

-- a row in which a replacement of a variable by its value overflows
abbrev pub is_unreplaced : Sub → Con → Bool
is_unreplaced v (con.Row r) = is_none (resolved_row v r)
is_unreplaced v (con.Eq t u) = false
is_unreplaced v (con.Neq t u) = false
is_unreplaced v (con.NotShape x f n) = false
is_unreplaced v (con.Num t) = false
is_unreplaced v (con.NotNum t) = false

-- the line tells such a row
abbrev pub tells_unreplaced : Sub → Line → Bool
tells_unreplaced v (line.Test c) = is_unreplaced v c
tells_unreplaced v (line.Split c parts) = is_unreplaced v c
tells_unreplaced v (line.Pos a k ts n) = false
tells_unreplaced v (line.Neg a n) = false
tells_unreplaced v (line.Loop l at) = false
tells_unreplaced v (line.Seen l at) = false
tells_unreplaced v (line.Rule a k first) = false
tells_unreplaced v (line.Check k first) = false
tells_unreplaced v line.Void = false
tells_unreplaced v (line.Leaf k) = false
tells_unreplaced v (line.Head n) = false

-- the present lines tell such a row
abbrev pub lines_overflow : State → Bool
lines_overflow s = list_any (tells_unreplaced (meaning s)) s.lines

-- so does a line or a given constraint of a state with nothing left to do
abbrev pub end_overflows : State → Bool
end_overflows s = list_any (is_unreplaced (meaning s)) s.given || lines_overflow s

-- ---- the end of a case with universal variables

abbrev pub is_close : Task → Bool
is_close task.Close = true
is_close (task.Show i) = false
is_close (task.Equate t u) = false
is_close (task.Assume c) = false
is_close (task.Differ ps aim) = false
is_close (task.Become x t ps aim) = false
is_close (task.Avoid x q ps aim) = false
is_close (task.Shape x f ts ps aim) = false
is_close (task.Cover a k) = false
is_close (task.Check k checks_head) = false
is_close (task.Begin k first checks_head) = false
is_close task.Void = false
is_close task.Leave = false

-- the first task ends a case
abbrev pub closes : List Task → Bool
closes [] = false
closes (t ∷ ts) = is_close t

-- the innermost cover has universal variables
abbrev pub has_universals : List Cover → Bool
has_universals [] = false
has_universals (c ∷ cs) = not (is_empty c.universals)

-- Universal variables lose their values where their case ends, so its lines are read there for the last time.
abbrev pub close_overflows : State → List Task → Bool
close_overflows s work = (closes work && has_universals s.covers) && lines_overflow s
