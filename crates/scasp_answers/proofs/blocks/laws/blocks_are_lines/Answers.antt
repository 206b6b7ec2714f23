use Rattle.scasp_answers.proofs.BlocksLemmas.BlockLines.{block-lines}
use Rattle.scasp_answers.proofs.blocks.laws.blocks_are_lines.Goals as goal

pub returns : goal.returns
returns c = block-lines
