use Rattle.std.proofs.Common.{◌≡◌, ◌++◌, drop}
use Rattle.scasp_view_top.specs.Program.Lines.{abducible_lines, text_of}
use Rattle.scasp_view_top.proofs.program.lines.put_abducibles.Given as goal

abbrev pub invariant-loop-pred : goal.invariant-loop-pred
invariant-loop-pred l = l.out.items ++ text_of (abducible_lines l.names (drop l.pred-index l.preds)) ≡ l.fn.out.items ++ text_of (abducible_lines l.names l.preds)
