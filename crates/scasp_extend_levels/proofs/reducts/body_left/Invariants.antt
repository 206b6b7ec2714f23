use Rattle.std.proofs.Common.{◌≡◌, ◌++◌, drop}
use Rattle.std.specs.List.{list_any}
use Rattle.scasp_extend_levels.specs.Numbered.{fails, numbers_left}
use Rattle.scasp_worklist.specs.Numbered.{has}
use Rattle.scasp_extend_levels.proofs.reducts.body_left.Given as goal

abbrev pub invariant-loop-literal : goal.invariant-loop-literal
invariant-loop-literal l = record {
  kept : l.kept ++ numbers_left l.standings (drop l.literal-index l.body) ≡ numbers_left l.standings l.body;
  wrong : list_any (fails l.standings (has l.set)) (drop l.literal-index l.body) ≡ list_any (fails l.standings (has l.set)) l.body;
}
