use Rattle.std.proofs.Common.{take}
use Rattle.scasp_closure.specs.Reading.{Extends}
use Rattle.scasp_extend_levels.specs.Numbered.{StandBody}
use Rattle.scasp_extend_levels.proofs.numbered.numbered_body.Given as goal

abbrev pub invariant-loop-literal : goal.invariant-loop-literal
invariant-loop-literal l = record {
  grown : Extends l.fn.table l.table;
  body : StandBody l.table l.made.items (take l.literal-index l.literal-items);
}
