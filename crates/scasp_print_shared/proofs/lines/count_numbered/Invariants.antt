use Rattle.std.proofs.Common.{◌≡◌, ◌+◌, drop, not}
use Rattle.std.specs.List.{prefix_len}
use Rattle.scasp_print_shared.specs.Inside.Lines.{read_all}
use Rattle.scasp_print_shared.specs.Shared.{is_behind}
use Rattle.scasp_print_shared.proofs.lines.count_numbered.Given as goal

abbrev pub invariant-loop-k : goal.invariant-loop-k
invariant-loop-k l =
    l.k + prefix_len (λ p. not (is_behind p)) (read_all (drop l.k l.lines)) ≡ prefix_len (λ p. not (is_behind p)) (read_all l.lines)
