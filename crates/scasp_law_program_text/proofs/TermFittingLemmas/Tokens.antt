-- The tokens of a text are such as can be written: texts of names are UTF-8, those of variables begin as such, and numbers lie within M.
use Rattle.std.proofs.Common.{◌≡◌, ◌⊎◌, inl, inr, ℕ, List, [], ◌∷◌, refl, sym, subst, arith}
use Rattle.scasp_reader_tokens.specs.declared.token.Token.{Token}
use Rattle.scasp_reader_tokens.specs.declared.token.Token.TheVariants as token
use Rattle.scasp_reader_tokens.specs.declared.token.Placed.{Placed}
use Rattle.scasp_reader_tokens.specs.Tokens.{tokens_of}
use Rattle.scasp_reader_terms.specs.Steps.{start}
use Rattle.scasp_law_program_text.proofs.ReadbackLemmas.FoundTokens.{IsFound, AreFound, tokens-found}
use Rattle.scasp_law_program_text.specs.CompoundReadback.Styles.{IsTable}
use Rattle.scasp_law_program_text.specs.TermFitting.Readers.{IsSmall, IsToken, AreTokens, IsReader}
use Rattle.scasp_law_program_text.proofs.TermFittingLemmas.Ranges.{literal-small}

found-is : (t : Token) → IsFound t → IsToken t
found-is (token.Name text) h = h
found-is token.Not h = tt
found-is (token.Variable text) h = h
found-is (token.Number q) h = subst IsSmall (sym h.2) (literal-small h.0 h.1)
found-is (token.Sign s) h = tt
found-is token.Abducible h = tt
found-is token.SkippedDirective h = tt
found-is token.UnclosedDirective h = tt
found-is token.OtherDirective h = tt
found-is token.BadByte h = tt
found-is token.Unclosed h = tt
found-is token.End h = absurd h

found-are : (ts : List Placed) → AreFound ts → AreTokens ts
found-are [] h = tt
found-are (t ∷ ts) h = (by h.0, found-are ts h.1)
  where
    by : IsFound t.token ⊎ ((t.token ≡ token.End) × (ts ≡ [])) → IsToken t.token
    by (inl k) = found-is t.token k
    by (inr k) = subst IsToken (sym k.0) tt

pub tokens-are : (bytes : List ℕ) → AreTokens (tokens_of bytes)
tokens-are bytes = found-are (tokens_of bytes) (tokens-found bytes)

-- a reader of a text, which has read nothing
pub reader-starts : (names : List (List ℕ)) (bytes : List ℕ) → IsTable names → IsReader (start (tokens_of bytes) names)
reader-starts names bytes table = record { tokens = tokens-are bytes; style = record { table = table; variables = refl }; limit = λ fine. omega arith }
