-- The end stands behind all other tokens of a text.
use Rattle.std.proofs.Common.{◌≡◌, ◌⊎◌, inl, inr, ℕ, List, [], ◌∷◌, ◌++◌, subst, ap}
use Rattle.scasp_reader_tokens.specs.declared.token.Token.{Token}
use Rattle.scasp_reader_tokens.specs.declared.token.Token.TheVariants as token
use Rattle.scasp_reader_tokens.specs.declared.token.Placed.{Placed}
use Rattle.scasp_reader_tokens.specs.Tokens.{tokens_of}
use Rattle.scasp_law_program_text.proofs.ReadbackLemmas.FoundTokens.{IsFound, AreFound, tokens-found}
use Rattle.scasp_law_program_text.specs.Grammar.Spelling.{bare, tokens_in}

-- what stands behind the end is nothing
none-behind : (ts : List Placed) (front rest : List Token) → AreFound ts → bare ts ≡ front ++ token.End ∷ rest → rest ≡ []
none-behind [] [] rest h e = cc
none-behind [] (k ∷ front) rest h e = cc
none-behind (t ∷ ts) [] rest h e = by h.0
  where
    by : IsFound t.token ⊎ ((t.token ≡ token.End) × (ts ≡ [])) → rest ≡ []
    by (inl k) = let last : t.token ≡ token.End = cc in absurd (subst IsFound last k)
    by (inr k) = let none : bare ts ≡ [] = ap bare k.1 in cc
none-behind (t ∷ ts) (k ∷ front) rest h e = let behind : bare ts ≡ front ++ token.End ∷ rest = cc in none-behind ts front rest h.1 behind

-- in the tokens of a text
pub end-is-last : (bytes : List ℕ) (front rest : List Token) → tokens_in bytes ≡ front ++ token.End ∷ rest → rest ≡ []
end-is-last bytes front rest e = none-behind (tokens_of bytes) front rest (tokens-found bytes) e
