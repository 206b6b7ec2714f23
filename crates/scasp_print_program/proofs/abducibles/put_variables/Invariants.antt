use Rattle.std.proofs.Common.{◌≡◌, ◌==◌, ◌-◌, ◌++◌, true}
use Rattle.scasp_print_program.specs.Abducibles.{variables_text}
use Rattle.scasp_print_program.proofs.abducibles.put_variables.Given as goal

abbrev pub invariant-loop-var : goal.invariant-loop-var
invariant-loop-var l = l.out.items ++ variables_text (l.var == 0) l.var (l.count - l.var) ≡ l.fn.out.items ++ variables_text true 0 l.count
