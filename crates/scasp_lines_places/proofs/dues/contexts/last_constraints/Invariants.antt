use Rattle.std.proofs.Common.{◌≡◌, ◌≤◌, ◌++◌, [], length, reverse, vec_len}
use Rattle.scasp_lines.specs.Contexts.{context}
use Rattle.scasp_lines_places.specs.Places.Chains.{chained}
use Rattle.scasp_lines_places.specs.Places.View.{all_opened}
use Rattle.scasp_lines_places.proofs.dues.contexts.last_constraints.Given as goal

abbrev pub invariant-loop-rest : goal.invariant-loop-rest
invariant-loop-rest l =
    record {
      whole : context [] (all_opened l.rest) ++ reverse l.found.items ≡ context [] (all_opened l.opened);
      few : vec_len l.found ≤ l.count;
    }

abbrev pub decreases-loop-rest : goal.decreases-loop-rest
decreases-loop-rest l = length (chained l.rest)
