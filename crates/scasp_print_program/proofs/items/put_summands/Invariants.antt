use Rattle.std.proofs.Common.{◌≡◌, ◌++◌, true, drop}
use Rattle.scasp_print_program.specs.Items.{summands_text}
use Rattle.scasp_print_program.proofs.items.put_summands.Given as goal

abbrev pub invariant-loop-var : goal.invariant-loop-var
invariant-loop-var l =
    l.out.items ++ summands_text l.shown l.row l.is_first (drop l.var-index l.var-items)
    ≡ l.fn.out.items ++ summands_text l.shown l.row true l.vars
