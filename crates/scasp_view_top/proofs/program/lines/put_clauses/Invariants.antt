use Rattle.std.proofs.Common.{◌≡◌, ◌+◌, ◌++◌, drop}
use Rattle.scasp_view_top.specs.Program.Lines.{clause_lines, text_of}
use Rattle.scasp_view_top.proofs.program.lines.put_clauses.Given as goal

abbrev pub invariant-loop-place : goal.invariant-loop-place
invariant-loop-place l =
    l.out.items ++ text_of (clause_lines l.names l.written (l.place + 1) (drop l.place l.clauses))
    ≡ l.fn.out.items ++ text_of (clause_lines l.names l.written 1 l.clauses)
