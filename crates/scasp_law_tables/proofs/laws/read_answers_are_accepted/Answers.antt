use Rattle.scasp_law_tables.proofs.Files.{read-accepted}
use Rattle.scasp_law_tables.proofs.laws.read_answers_are_accepted.Goals as goal

pub returns : goal.returns
returns c = read-accepted (λ names x n. c.blocks_are_lines.ensures names x n)
