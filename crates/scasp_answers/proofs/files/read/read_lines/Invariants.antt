use Rattle.std.proofs.Common.{◌≡◌, ◌+◌, length}
use Rattle.scasp_answers.specs.Blocks.Files.{split_lines, first_versioned, read_lines}
use Rattle.scasp_answers.specs.Files.Inside.{versioned_of}
use Rattle.scasp_answers.proofs.files.read.read_lines.Given as goal

abbrev pub invariant-loop-len : goal.invariant-loop-len
invariant-loop-len l = record {
  same : read_lines l.names (versioned_of l.read) l.at (split_lines l.rest).lines (split_lines l.rest).rest ≡ read_lines l.fn.names first_versioned 0 (split_lines l.fn.bytes).lines (split_lines l.fn.bytes).rest;
  within : l.at + length l.rest ≡ length l.fn.bytes;
}

abbrev pub decreases-loop-len : goal.decreases-loop-len
decreases-loop-len l = length l.rest
