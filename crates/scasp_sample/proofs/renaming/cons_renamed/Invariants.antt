use Rattle.std.proofs.Common.{◌≡◌, map, take}
use Rattle.scasp_search_rules.specs.Successors.Numbering.{con_renamed, placing}
use Rattle.scasp_sample.proofs.renaming.cons_renamed.Given as goal

abbrev pub invariant-loop-constraint : goal.invariant-loop-constraint
invariant-loop-constraint l = l.made ≡ map (con_renamed (placing l.by.all.now)) (take l.constraint-index l.list)
