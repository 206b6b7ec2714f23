-- The lines of blocks, by the numbers of their answers and their certificates.
use Rattle.std.specs.Prelude.{ℕ, List, [], ◌∷◌, Option, None, Some}
use Rattle.scasp_syntax.specs.declared.program.Program.{Program}
use Rattle.scasp_cert.specs.Certificate.{Certificate}
use Rattle.scasp_command_check.specs.Texts.{line_by}
use Rattle.scasp_command_check.specs.Worths.{worth_of}

-- the line of a block, where both are there
abbrev pub line_at : Program → Option ℕ → Option Certificate → List ℕ
line_at p None c = []
line_at p (Some n) None = []
line_at p (Some n) (Some c) = line_by (worth_of p c) n c

abbrev pub lines_by : Program → List ℕ → List Certificate → List (List ℕ)
lines_by p [] cs = []
lines_by p (n ∷ ns) [] = []
lines_by p (n ∷ ns) (c ∷ cs) = line_by (worth_of p c) n c ∷ lines_by p ns cs
