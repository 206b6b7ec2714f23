-- All lines of a certificate, and those from one line on to the last below it.
use Rattle.std.specs.Prelude.{ℕ, List, ◌+◌, length}
use Rattle.scasp_syntax.specs.Programs.{numbered}
use Rattle.scasp_syntax.specs.Tm.{items}
use Rattle.scasp_syntax.specs.declared.clause.Clause.{Clause}
use Rattle.scasp_syntax.specs.declared.clause.Query.{Query}
use Rattle.scasp_syntax.specs.declared.program.Program.{Program}
use Rattle.scasp_cert.specs.Certificate.{Certificate}
use Rattle.scasp_cert.specs.Lines.{lines_below}
use Rattle.scasp_cert.specs.Trees.{listed}
use Rattle.scasp_lines.specs.Dues.{query_dues}
use Rattle.scasp_lines.specs.Places.{start}
use Rattle.scasp_lines.specs.Rooms.{room_below, room_under}
use Rattle.scasp_lines.specs.Walk.{Line, Setting, Walked, followed, nodes_walk, checks_walk, part_walk}

-- the number of free variables
abbrev pub free_of : Certificate → ℕ
free_of c = length (items c.sample)

abbrev pub setting : List Clause → Certificate → Setting
setting cs c = record { clauses = cs; free = free_of c; top = free_of c + (room_below cs (listed c.trees) + room_under cs c.checks) }

abbrev pub query_walk : List Clause → List Query → Certificate → Walked
query_walk cs qs c =
    let s = setting cs c in
    nodes_walk s (start s.top) 1 s.free (query_dues (numbered qs c.query) c.terms) (listed c.trees)

abbrev pub certificate_walk : List Clause → List Query → Certificate → Walked
certificate_walk cs qs c =
    let s = setting cs c in
    let first = query_walk cs qs c in
    followed first (checks_walk s (start s.top) (1 + lines_below (listed c.trees)) first.next c.checks)

-- all lines of a certificate, in order
abbrev pub lines : Program → Certificate → List Line
lines p c = (certificate_walk p.clauses p.queries c).lines

abbrev pub walk_of : Setting → Line → List Line
walk_of s l = (part_walk s l.here l.at l.next l.part).lines
