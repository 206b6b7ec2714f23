-- The table of names with the texts of a file that may be names.
use Rattle.std.specs.Prelude.{ℕ, if◌then◌else◌, List, [], ◌∷◌, drop}
use Rattle.scasp_name.specs.Texts.{with_text}
use Rattle.scasp_answers_terms.specs.Tokens.Tokens.{Token, word, quoted, tokens_in}
use Rattle.scasp_answers.specs.Blocks.Files.{split_lines, is_remark, indent}

-- a word or a quoted text may be a name
abbrev pub with_token : List (List ℕ) → Token → List (List ℕ)
with_token names (word w) = with_text names w
with_token names (quoted text) = with_text names text
with_token names _ = names

abbrev pub with_tokens : List (List ℕ) → List Token → List (List ℕ)
with_tokens names [] = names
with_tokens names (t ∷ ts) = with_tokens (with_token names t) ts

-- a line has names behind its first word
abbrev pub with_names_of : List (List ℕ) → List ℕ → List (List ℕ)
with_names_of names line = if is_remark line then names else with_tokens names (drop 1 (tokens_in (drop (indent line) line)))

abbrev pub with_lines : List (List ℕ) → List (List ℕ) → List (List ℕ)
with_lines names [] = names
with_lines names (line ∷ lines) = with_lines (with_names_of names line) lines

-- the names of a file are those of its lines
abbrev pub with_names : List (List ℕ) → List ℕ → List (List ℕ)
with_names names bytes = with_lines names (split_lines bytes).lines
