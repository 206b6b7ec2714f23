-- What the code's blocks are.
use Rattle.std.specs.Prelude.{◌≡◌, List}
use Rattle.scasp_syntax.specs.declared.program.Program.{Program}
use Rattle.scasp_answers.specs.Blocks.States.{Entry}
use Rattle.scasp_recheck.specs.Meaning.{certs_in, program_of}
use Rattle.scasp_command_recheck.specs.Blocks.{block_certs, block_numbers}
use Rattle.scasp_command_recheck.specs.declared.blocks.Blocks.{Blocks}

-- the blocks of a file with these entries, under the program
pub record AreBlocks (b : Blocks) (p : Program) (entries : List Entry) : Type 0 where
  pub program : program_of b.recheck ≡ p
  pub numbers : b.numbers ≡ block_numbers entries
  pub certs : certs_in b.recheck ≡ block_certs entries
