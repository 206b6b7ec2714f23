use Rattle.std.proofs.Common.{◌≡◌, length}
use Rattle.scasp_answers.specs.Blocks.Files.{split_lines}
use Rattle.scasp_domain_text.specs.Names.{domain_names, with_lines}
use Rattle.scasp_domain_text.proofs.names.add_names.Given as goal

abbrev pub invariant-loop-len : goal.invariant-loop-len
invariant-loop-len l = with_lines l.names (split_lines l.rest).lines ≡ domain_names l.fn.names l.fn.bytes

abbrev pub decreases-loop-len : goal.decreases-loop-len
decreases-loop-len l = length l.rest
