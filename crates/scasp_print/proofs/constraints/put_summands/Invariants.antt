use Rattle.std.proofs.Common.{◌≡◌, ◌++◌, true, drop}
use Rattle.scasp_cert.specs.Text.Constraints.{summands_text}
use Rattle.scasp_print.proofs.constraints.put_summands.Given as goal

abbrev pub invariant-loop-summand : goal.invariant-loop-summand
invariant-loop-summand l =
    l.out.items ++ summands_text l.is_first (drop l.summand-index l.summand-items)
    ≡ l.fn.out.items ++ summands_text true l.summands
