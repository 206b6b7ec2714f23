use Rattle.std.proofs.Common.{◌≡◌, ◌++◌, map, drop}
use Rattle.scasp_print_program.specs.Programs.{query_variable}
use Rattle.scasp_print_program.proofs.clauses.query_variables.Given as goal

abbrev pub invariant-loop-name : goal.invariant-loop-name
invariant-loop-name l =
    l.texts ++ map (query_variable l.names) (drop l.name-index l.vars) ≡ map (query_variable l.names) l.vars
