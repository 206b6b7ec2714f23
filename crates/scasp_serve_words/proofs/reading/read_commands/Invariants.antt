use Rattle.std.proofs.Common.{◌≡◌, ◌+◌, length}
use Rattle.scasp_serve_words.proofs.ReadLemmas.{ahead, read_on}
use Rattle.scasp_serve_words.specs.Reading.{commands_in}
use Rattle.scasp_serve_words.proofs.reading.read_commands.Given as goal

abbrev pub invariant-loop-rest : goal.invariant-loop-rest
invariant-loop-rest l = record {
  same : ahead l.commands.items (read_on l.at l.rest) ≡ commands_in l.fn.bytes;
  within : l.at + length l.rest ≡ length l.fn.bytes;
}

abbrev pub decreases-loop-rest : goal.decreases-loop-rest
decreases-loop-rest l = length l.rest
