use Rattle.std.proofs.Common.{◌≡◌, ◌++◌, drop}
use Rattle.std.specs.Prelude.{flat_map}
use Rattle.scasp_print_program.specs.Abducibles.{abducible_text}
use Rattle.scasp_print_program.proofs.programs.put_abducibles.Given as goal

abbrev pub invariant-loop-pred : goal.invariant-loop-pred
invariant-loop-pred l =
    l.out.items ++ flat_map (abducible_text l.names) (drop l.pred-index l.preds)
    ≡ l.fn.out.items ++ flat_map (abducible_text l.names) l.preds
