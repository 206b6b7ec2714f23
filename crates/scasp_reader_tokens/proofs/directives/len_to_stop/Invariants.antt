use Rattle.std.proofs.Common.{◌≡◌, ◌-◌, length, drop}
use Rattle.scasp_reader_tokens.specs.Bytes.{farther}
use Rattle.scasp_reader_tokens.specs.Directives.{length_to_stop}
use Rattle.scasp_reader_tokens.proofs.directives.len_to_stop.Given as goal

abbrev pub invariant-loop-at : goal.invariant-loop-at
invariant-loop-at l = farther l.at (length_to_stop 0 (drop l.at l.bytes)) ≡ length_to_stop 0 l.bytes

abbrev pub decreases-loop-at : goal.decreases-loop-at
decreases-loop-at l = length l.bytes - l.at
