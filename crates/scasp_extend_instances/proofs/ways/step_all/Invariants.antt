use Rattle.std.proofs.Common.{◌≡◌, ◌++◌, drop}
use Rattle.std.specs.List.{flat_map, list_any}
use Rattle.scasp_lines_places.specs.Places.View.{opened_of}
use Rattle.scasp_syntax.specs.Tm.{items}
use Rattle.scasp_syntax.specs.View.{tms_of}
use Rattle.scasp_extend_instances.specs.Within.{entry_overflows, step_within}
use Rattle.scasp_extend_instances.specs.View.{ways_of}
use Rattle.scasp_extend_instances.proofs.ways.step_all.Given as goal

abbrev pub invariant-loop-way : goal.invariant-loop-way
invariant-loop-way l =
    record {
      made : ways_of l.made ++ flat_map (step_within (items (tms_of l.domain)) (opened_of l.entry)) (ways_of (drop l.way-index l.way-items))
          ≡ flat_map (step_within (items (tms_of l.domain)) (opened_of l.entry)) (ways_of l.ways);
      past : list_any (entry_overflows (opened_of l.entry)) (ways_of (drop l.way-index l.way-items)) ≡ list_any (entry_overflows (opened_of l.entry)) (ways_of l.ways);
    }
