use Rattle.std.proofs.Common.{◌≡◌, ◌++◌, drop}
use Rattle.scasp_search_rules.specs.Successors.Numbering.{universal_variables}
use Rattle.scasp_search_ends.proofs.finished.universals.push_all_universals.Given as goal

abbrev pub invariant-loop-line : goal.invariant-loop-line
invariant-loop-line l =
    l.found ++ universal_variables l.program (drop l.line-index l.line-items) ≡ l.fn.found ++ universal_variables l.program l.lines
