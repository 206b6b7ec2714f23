use Rattle.std.proofs.Common.{◌≡◌, ◌-◌, ◌++◌}
use Rattle.scasp_print_program.specs.Programs.{rule_variables}
use Rattle.scasp_view_top.proofs.clauses.variables.rule_variables.Given as goal

abbrev pub invariant-loop-var : goal.invariant-loop-var
invariant-loop-var l = l.texts ++ rule_variables l.var (l.count - l.var) ≡ rule_variables 0 l.count
