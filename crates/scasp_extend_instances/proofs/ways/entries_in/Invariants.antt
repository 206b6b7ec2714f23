use Rattle.std.proofs.Common.{◌≡◌, ◌++◌, length, map}
use Rattle.scasp_lines_places.specs.Places.Chains.{chained}
use Rattle.scasp_lines_places.specs.Places.View.{all_opened, opened_of}
use Rattle.scasp_extend_instances.proofs.ways.entries_in.Given as goal

abbrev pub invariant-loop-entry : goal.invariant-loop-entry
invariant-loop-entry l = map (λ b. opened_of b.now) l.all.items ++ all_opened l.rest ≡ all_opened l.opened

abbrev pub decreases-loop-entry : goal.decreases-loop-entry
decreases-loop-entry l = length (chained l.rest)
