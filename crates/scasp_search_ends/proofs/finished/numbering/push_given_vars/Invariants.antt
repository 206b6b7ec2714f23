use Rattle.std.proofs.Common.{◌≡◌, ◌++◌, drop}
use Rattle.std.specs.List.{flat_map}
use Rattle.scasp_search_rules.specs.Successors.Reading.{con_vars}
use Rattle.scasp_syntax.specs.Tm.{var}
use Rattle.scasp_search_ends.proofs.finished.numbering.push_given_vars.Given as goal

abbrev pub invariant-loop-constraint : goal.invariant-loop-constraint
invariant-loop-constraint l =
    l.found ++ flat_map (con_vars var) (drop l.constraint-index l.given) ≡ l.fn.found ++ flat_map (con_vars var) l.given
