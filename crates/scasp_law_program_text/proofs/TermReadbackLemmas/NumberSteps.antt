-- The reader over the tokens of a number.
use Rattle.std.proofs.Common.{◌≡◌, ℕ, true, false, List, ◌∷◌, Some, Ok, refl}
use Rattle.scasp_num.specs.Number.{Number}
use Rattle.scasp_num.specs.Arithmetic.{quotient_of, negation_of}
use Rattle.scasp_num.specs.Linear.{is_zero}
use Rattle.scasp_syntax.specs.Tm.{num}
use Rattle.scasp_reader_tokens.specs.declared.sign.Sign.TheVariants as sign
use Rattle.scasp_reader_tokens.specs.declared.token.Token.TheVariants as token
use Rattle.scasp_reader_tokens.specs.declared.token.Placed.{Placed}
use Rattle.scasp_reader_tokens.specs.Tokens.{placed}
use Rattle.scasp_reader_terms.specs.Steps.{State, token_of, is_sign}
use Rattle.scasp_reader_terms.specs.Constants.{constant}

module _ (s : State) (ts : List Placed) where
  pub whole-step : (a : ℕ) (p : Number) → is_sign sign.Over (token_of ts) ≡ false
      → constant (record s { tokens = placed a (token.Number (Some p)) ∷ ts }) ≡ Ok (num p, record s { tokens = ts; is_behind_operand = true })
  whole-step a p e = rw e refl

  pub negative-step : (a b : ℕ) (p : Number) → is_sign sign.Over (token_of ts) ≡ false
      → constant (record s { tokens = placed a (token.Sign sign.Minus) ∷ placed b (token.Number (Some p)) ∷ ts }) ≡ Ok (num (negation_of p), record s { tokens = ts; is_behind_operand = true })
  negative-step a b p e = rw e refl

  pub fraction-step : (a b c : ℕ) (p d q : Number) → is_zero d.num ≡ false → quotient_of p d ≡ Some q
      → constant (record s { tokens = placed a (token.Number (Some p)) ∷ placed b (token.Sign sign.Over) ∷ placed c (token.Number (Some d)) ∷ ts }) ≡ Ok (num q, record s { tokens = ts; is_behind_operand = true })
  fraction-step a b c p d q z e = rw (z, e) refl

  pub negative_fraction-step : (a b c e : ℕ) (p d q : Number) → is_zero d.num ≡ false → quotient_of p d ≡ Some q
      → constant (record s { tokens = placed a (token.Sign sign.Minus) ∷ placed b (token.Number (Some p)) ∷ placed c (token.Sign sign.Over) ∷ placed e (token.Number (Some d)) ∷ ts }) ≡ Ok (num (negation_of q), record s { tokens = ts; is_behind_operand = true })
  negative_fraction-step a b c e p d q z f = rw (z, f) refl
