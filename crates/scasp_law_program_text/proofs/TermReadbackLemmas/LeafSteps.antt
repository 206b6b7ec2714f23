-- The reader over the tokens of a variable, of a name and of the empty list.
use Rattle.std.proofs.Common.{◌≡◌, ℕ, ◌<◌, true, false, nat_le, List, [], ◌∷◌, ◌++◌, length, Option, None, Some, Ok, refl, ap, ◌∙◌, arith}
use Rattle.std.proofs.lemmas.Bool.Decides.{nat_tests}
use Rattle.scasp_name.specs.Texts.{with_text}
use Rattle.scasp_syntax.specs.Tm.{Tm, var, app, nil}
use Rattle.scasp_reader_tokens.specs.declared.sign.Sign.TheVariants as sign
use Rattle.scasp_reader_tokens.specs.declared.token.Token.TheVariants as token
use Rattle.scasp_reader_tokens.specs.declared.token.Placed.{Placed}
use Rattle.scasp_reader_tokens.specs.Tokens.{placed}
use Rattle.scasp_reader_terms.specs.declared.reader.TheConstants.{VARIABLE_LIMIT}
use Rattle.scasp_reader_terms.specs.Steps.{State, Read, then_read, give, token_of, is_sign}
use Rattle.scasp_reader_terms.specs.Names.{place_in, known_variable, new_variable}
use Rattle.scasp_reader_terms.proofs.VariableLemmas.{few-numbered}
use Rattle.scasp_reader_terms.specs.Terms.{variable_term, compound, term_at_sign}

module _ (s : State) (ts : List Placed) where
  pub known-step : (a : ℕ) (text : List ℕ) (x : ℕ) → known_variable text s.variables ≡ Some x
      → variable_term a text (record s { tokens = placed a (token.Variable text) ∷ ts }) ≡ Ok (var x, record s { tokens = ts; is_behind_operand = true })
  known-step a text x e =
      let s' : State = record s { tokens = ts; is_behind_operand = true } in
      ap (λ o. then_read (elim o [ None ↦ new_variable a text s' | Some x ↦ Ok (x, s') ]) (λ x. give (var x))) e

  pub first-step : (a : ℕ) (text : List ℕ) → known_variable text s.variables ≡ None → length s.variables < VARIABLE_LIMIT
      → variable_term a text (record s { tokens = placed a (token.Variable text) ∷ ts }) ≡ Ok (var (length s.variables), record s { tokens = ts; is_behind_operand = true; variables = s.variables ++ text ∷ [] })
  first-step a text e h =
      let s' : State = record s { tokens = ts; is_behind_operand = true } in
      let room : nat_le VARIABLE_LIMIT (length s.variables) ≡ false = grind (arith, nat_tests, h) in
      ap (λ o. then_read (elim o [ None ↦ new_variable a text s' | Some x ↦ Ok (x, s') ]) (λ x. give (var x))) e ∙ rw (room, few-numbered _ room) refl

  pub name-step : (inner : Option (Read Tm)) (a : ℕ) (text : List ℕ) → is_sign sign.Open (token_of ts) ≡ false
      → compound inner text (record s { tokens = placed a (token.Name text) ∷ ts }) ≡ Ok (app (place_in s.names text) nil, record s { tokens = ts; is_behind_operand = true; names = with_text s.names text })
  name-step inner a text e = rw e refl

  pub list-step : (one : Read Tm) (a b : ℕ)
      → term_at_sign (Some one) sign.OpenList (record s { tokens = placed a (token.Sign sign.OpenList) ∷ placed b (token.Sign sign.CloseList) ∷ ts }) ≡ Ok (app 0 nil, record s { tokens = ts; is_behind_operand = true })
  list-step one a b = refl
