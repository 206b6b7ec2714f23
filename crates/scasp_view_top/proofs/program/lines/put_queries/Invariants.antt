use Rattle.std.proofs.Common.{◌≡◌, ◌+◌, ◌++◌, drop}
use Rattle.scasp_view_top.specs.Program.Lines.{query_lines, text_of}
use Rattle.scasp_view_top.proofs.program.lines.put_queries.Given as goal

abbrev pub invariant-loop-place : goal.invariant-loop-place
invariant-loop-place l =
    l.out.items ++ text_of (query_lines l.names (l.place + 1) (drop l.place l.queries))
    ≡ l.fn.out.items ++ text_of (query_lines l.names 1 l.queries)
