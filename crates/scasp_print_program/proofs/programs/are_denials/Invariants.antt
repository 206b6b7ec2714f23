use Rattle.std.proofs.Common.{◌≡◌, drop}
use Rattle.scasp_print_program.specs.Programs.{are_denials}
use Rattle.scasp_print_program.proofs.programs.are_denials.Given as goal

abbrev pub invariant-loop-pred : goal.invariant-loop-pred
invariant-loop-pred l = are_denials (drop l.pred-index l.preds) l.left ≡ are_denials l.preds l.clauses
