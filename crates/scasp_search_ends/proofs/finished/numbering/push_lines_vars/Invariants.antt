use Rattle.std.proofs.Common.{◌≡◌, ◌++◌, drop}
use Rattle.std.specs.List.{flat_map}
use Rattle.scasp_search_rules.specs.Successors.Numbering.{line_vars}
use Rattle.scasp_search_ends.proofs.finished.numbering.push_lines_vars.Given as goal

abbrev pub invariant-loop-line : goal.invariant-loop-line
invariant-loop-line l = l.found ++ flat_map line_vars (drop l.line-index l.lines) ≡ l.fn.found ++ flat_map line_vars l.lines
