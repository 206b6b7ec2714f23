use Rattle.std.proofs.Common.{◌≡◌, drop}
use Rattle.scasp_print_program.specs.Programs.{are_same_calls}
use Rattle.scasp_print_program.proofs.programs.are_same_calls.Given as goal

abbrev pub invariant-loop-item : goal.invariant-loop-item
invariant-loop-item l = are_same_calls (drop l.item-index l.items) l.left ≡ are_same_calls l.items l.others
