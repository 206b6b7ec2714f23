use Rattle.std.proofs.Common.{◌≡◌, length}
use Rattle.scasp_answers.specs.Blocks.Files.{split_lines}
use Rattle.scasp_answers.specs.Files.Texts.{with_lines, with_names}
use Rattle.scasp_answers.proofs.files.names.add_names.Given as goal

abbrev pub invariant-loop-len : goal.invariant-loop-len
invariant-loop-len l = with_lines l.names (split_lines l.rest).lines ≡ with_names l.fn.names l.fn.bytes

abbrev pub decreases-loop-len : goal.decreases-loop-len
decreases-loop-len l = length l.rest
