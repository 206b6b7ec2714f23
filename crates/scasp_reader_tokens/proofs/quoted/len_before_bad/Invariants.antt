use Rattle.std.proofs.Common.{◌≡◌, ◌-◌, length, drop}
use Rattle.scasp_reader_tokens.specs.Bytes.{farther}
use Rattle.scasp_reader_tokens.specs.Quoted.{length_before_bad}
use Rattle.scasp_reader_tokens.proofs.quoted.len_before_bad.Given as goal

abbrev pub invariant-loop-at : goal.invariant-loop-at
invariant-loop-at l = farther l.at (length_before_bad (drop l.at l.bytes)) ≡ length_before_bad l.bytes

abbrev pub decreases-loop-at : goal.decreases-loop-at
decreases-loop-at l = length l.bytes - l.at
