use Rattle.std.proofs.Common.{◌≡◌, map, take, true}
use Rattle.scasp_lines.specs.Dues.{due_of}
use Rattle.scasp_lines_places.specs.Dues.DueView.{due_value}
use Rattle.scasp_lines_places.proofs.dues.due.all_true.Given as goal

abbrev pub invariant-loop-item : goal.invariant-loop-item
invariant-loop-item g l = map due_value l.dues ≡ map (due_of (g.S.Substitution.gives l.by) true) (take l.item-index l.items)
