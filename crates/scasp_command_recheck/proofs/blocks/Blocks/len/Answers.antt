use Rattle.std.proofs.Common.{◌∙◌, length, ap}
use Rattle.scasp_command_recheck.proofs.blocks.Blocks.len.Goals as goal

pub returns : goal.returns
returns c = λ p entries h. c.len.ensures ∙ ap length h.certs
