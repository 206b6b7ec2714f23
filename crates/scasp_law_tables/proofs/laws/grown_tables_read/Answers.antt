use Rattle.scasp_law_tables.proofs.Files.{grown-read}
use Rattle.scasp_law_tables.proofs.laws.grown_tables_read.Goals as goal

pub returns : goal.returns
returns c = grown-read (λ names x n. c.blocks_are_lines.ensures names x n)
