use Rattle.std.proofs.Common.{◌≡◌, ◌+◌, drop}
use Rattle.scasp_print_shared.specs.Inside.Lines.{behind_tree, read_all}
use Rattle.scasp_print_shared.proofs.lines.behind_tree.Given as goal

abbrev pub invariant-loop-k : goal.invariant-loop-k
invariant-loop-k l = l.k + behind_tree (read_all (drop l.k l.lines)) ≡ behind_tree (read_all l.lines)
