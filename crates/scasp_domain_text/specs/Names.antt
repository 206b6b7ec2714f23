-- The table of names with the texts of a domain file that may be names.
use Rattle.std.specs.Prelude.{ℕ, List, [], ◌∷◌}
use Rattle.scasp_answers_terms.specs.Tokens.Tokens.{tokens_in}
use Rattle.scasp_answers.specs.Blocks.Files.{split_lines}
use Rattle.scasp_answers.specs.Files.Texts.{with_tokens}

abbrev pub with_lines : List (List ℕ) → List (List ℕ) → List (List ℕ)
with_lines names [] = names
with_lines names (line ∷ lines) = with_lines (with_tokens names (tokens_in line)) lines

-- the names of a file are those of its lines
abbrev pub domain_names : List (List ℕ) → List ℕ → List (List ℕ)
domain_names names bytes = with_lines names (split_lines bytes).lines
