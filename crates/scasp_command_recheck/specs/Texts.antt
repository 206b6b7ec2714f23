-- The text of blocks under one program after another.
use Rattle.std.specs.Prelude.{ℕ, List, [], ◌∷◌, ◌++◌, length, codes, decimal}
use Rattle.std.specs.List.{concat}
use Rattle.scasp_syntax.specs.declared.program.Program.{Program}
use Rattle.scasp_answers.specs.Blocks.States.{Entry}
use Rattle.scasp_touched.specs.Touched.{touched_count}
use Rattle.scasp_command_check.specs.Texts.{block_lines}
use Rattle.scasp_command_recheck.specs.Blocks.{block_certs}

unfoldable pub program_line : ℕ → List ℕ
program_line n = codes "program " ++ decimal n ++ codes "\n"

unfoldable pub visited_line : ℕ → List ℕ
visited_line n = codes "visited " ++ decimal n ++ codes "\n"

-- the n-th program, the lines of a check of its blocks, and how many of them were visited
abbrev pub program_text : ℕ → Program → List Entry → ℕ → List ℕ
program_text n p entries visited = program_line n ++ concat (block_lines p entries) ++ visited_line visited

-- under the first program each block is visited
abbrev pub first_text : Program → List Entry → List ℕ
first_text p entries = program_text 1 p entries (length (block_certs entries))

-- under the n-th one, q, behind p, those that the step touches
abbrev pub next_text : ℕ → Program → Program → List Entry → List ℕ
next_text n p q entries = program_text n q entries (touched_count p q (block_certs entries))
