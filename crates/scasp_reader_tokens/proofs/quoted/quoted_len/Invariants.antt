use Rattle.std.proofs.Common.{◌≡◌, ◌-◌, length, drop}
use Rattle.scasp_reader_tokens.specs.Bytes.{farther}
use Rattle.scasp_reader_tokens.specs.Quoted.{quoted_length}
use Rattle.scasp_reader_tokens.proofs.quoted.quoted_len.Given as goal

abbrev pub invariant-loop-at : goal.invariant-loop-at
invariant-loop-at l = farther l.at (quoted_length (drop l.at l.bytes)) ≡ quoted_length l.bytes

abbrev pub decreases-loop-at : goal.decreases-loop-at
decreases-loop-at l = length l.bytes - l.at
