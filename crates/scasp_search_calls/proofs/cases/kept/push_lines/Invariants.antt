use Rattle.std.proofs.Common.{◌≡◌, ◌++◌, map, take}
use Rattle.scasp_search_rules.specs.Successors.Cases.{line_under}
use Rattle.scasp_search_calls.proofs.cases.kept.push_lines.Given as goal

abbrev pub invariant-loop-line : goal.invariant-loop-line
invariant-loop-line l = l.lines ≡ l.fn.lines ++ map (line_under l.state) (take l.line-index l.state.lines)
