-- What it says that the text of a sign is read as this sign.
use Rattle.std.specs.Prelude.{◌≡◌, ℕ, ◌+◌, List, ◌∷◌, ◌++◌, length}
use Rattle.scasp_reader_tokens.specs.declared.sign.Sign.{Sign}
use Rattle.scasp_reader_tokens.specs.declared.token.Token.TheVariants as token
use Rattle.scasp_reader_tokens.specs.Tokens.{placed, tokens_behind}

-- before these bytes
abbrev pub ReadsBefore : List ℕ → Sign → List ℕ → Type 0
ReadsBefore text s rest = (at : ℕ) → tokens_behind 0 at (text ++ rest) ≡ placed at (token.Sign s) ∷ tokens_behind 0 (at + length text) rest

-- before all bytes
abbrev pub Reads : List ℕ → Sign → Type 0
Reads text s = (rest : List ℕ) → ReadsBefore text s rest

-- before this byte
abbrev pub ReadsAt : List ℕ → Sign → ℕ → Type 0
ReadsAt text s b = (rest : List ℕ) → ReadsBefore text s (b ∷ rest)
