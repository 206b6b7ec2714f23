use Rattle.std.proofs.Common.{◌≡◌, ◌++◌, drop}
use Rattle.scasp_project.specs.Choices.{crossed}
use Rattle.scasp_project.proofs.choices.crossed.Given as goal

abbrev pub invariant-loop-list : goal.invariant-loop-list
invariant-loop-list l = l.all ++ crossed (drop l.list-index l.lists) l.options ≡ crossed l.lists l.options
