use Rattle.std.proofs.Common.{◌≡◌, ◌-◌, ◌++◌, map, drop}
use Rattle.scasp_lines.specs.Dues.{dues_until}
use Rattle.scasp_lines_places.specs.Dues.DueView.{due_value}
use Rattle.scasp_lines_places.proofs.dues.due.dues_until.Given as goal

abbrev pub invariant-loop-place : goal.invariant-loop-place
invariant-loop-place g l =
    map due_value l.dues ++ dues_until (g.S.Substitution.gives l.by) (l.count - l.place) (drop l.place l.items)
    ≡ dues_until (g.S.Substitution.gives l.by) l.count l.items
