-- Numbers of lines.
use Rattle.std.specs.Prelude.{◌≡◌, ℕ, suc, List, [], ◌∷◌, ◌+◌, ⊤}
use Rattle.scasp_cert.specs.Lines.{lines_of, lines_at}
use Rattle.scasp_lines.specs.Walk.{Part, of_node, of_rule, of_check, of_case, Line}

-- how many they are
abbrev pub lines_of_part : Part → ℕ
lines_of_part (of_node due t) = lines_of t
lines_of_part (of_rule k a b) = 1 + lines_at b
lines_of_part (of_check k b) = 1 + lines_at b
lines_of_part (of_case body b) = lines_at b

-- the numbers of the lines, from n on without a gap
abbrev pub Counts : ℕ → List Line → Type 0
Counts n [] = ⊤
Counts n (l ∷ ls) = (l.at ≡ n) × Counts (suc n) ls
