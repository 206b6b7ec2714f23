-- Steps of the reader over brackets, arguments and elements.
use Rattle.std.proofs.Common.{◌≡◌, ℕ, zero, suc, ◌-◌, ◌<◌, Bool, true, false, List, [], ◌∷◌, ◌++◌, length, Option, Some, Result, Ok, Err, refl, sym, ap, ◌∙◌, arith}
use Rattle.std.specs.Prelude.{if◌then◌else◌, nat_le}
use Rattle.std.proofs.lemmas.Bool.{false≢true}
use Rattle.scasp_name.specs.Texts.{with_text}
use Rattle.scasp_syntax.specs.Tm.{Tm, app, nil, listed}
use Rattle.scasp_reader_tokens.specs.declared.sign.Sign.TheVariants as sign
use Rattle.scasp_reader_tokens.specs.declared.token.Token.{Token}
use Rattle.scasp_reader_tokens.specs.declared.token.Token.TheVariants as token
use Rattle.scasp_reader_tokens.specs.declared.token.Placed.{Placed}
use Rattle.scasp_reader_tokens.specs.Tokens.{placed}
use Rattle.scasp_reader_terms.specs.declared.fault.Fault.{Fault}
use Rattle.scasp_reader_terms.specs.declared.terms.TheConstants.{ARITY_LIMIT}
use Rattle.scasp_reader_terms.specs.Steps.{State, Read, ◌>>=◌, give, token_of, is_sign, taken, between, series, unexpected_fault}
use Rattle.scasp_reader_terms.specs.Names.{place_in}
use Rattle.scasp_reader_terms.specs.Terms.{term, one_more, arguments, arguments_in, compound, elements_if, list_in, list_of, term_at_sign}
use Rattle.scasp_reader_terms.proofs.TermLemmas.{term_sign}

-- ---- the next token

closes : (t : Option Token) → is_sign sign.CloseList t ≡ true → t ≡ Some (token.Sign sign.CloseList)
closes (Some (token.Sign sign.CloseList)) e = refl
closes _ e = absurd (false≢true e)

-- no term begins with `]`
pub term-front : (room : ℕ) (s s1 : State) (t : Tm) → term room s ≡ Ok (t, s1) → is_sign sign.CloseList (token_of s.tokens) ≡ false
term-front room s s1 t e = by (is_sign sign.CloseList (token_of s.tokens)) refl
  where
    fails : (r : Result (Tm × State) Fault) → r ≡ Ok (t, s1) → r ≡ Err (unexpected_fault s) → ⊥
    fails r e f = let r1 : Result (Tm × State) Fault = Ok (t, s1) in let clash : r1 ≡ Err (unexpected_fault s) = sym e ∙ f in cc

    by : (b : Bool) → is_sign sign.CloseList (token_of s.tokens) ≡ b → is_sign sign.CloseList (token_of s.tokens) ≡ false
    by false c = c
    by true c = absurd (fails (term room s) e (term_sign room s sign.CloseList (closes (token_of s.tokens) c)))

-- ---- brackets

module _ {A : Type 0} (inner : Read A) (s s1 : State) (ts us : List Placed) (a b : ℕ) (x : A) where
  pub paren-step : inner (record s { tokens = ts; is_behind_operand = false; is_in_list = false }) ≡ Ok (x, record s1 { tokens = placed b (token.Sign sign.Close) ∷ us })
      → between false sign.Open sign.Close inner (record s { tokens = placed a (token.Sign sign.Open) ∷ ts }) ≡ Ok (x, record s1 { tokens = us; is_behind_operand = true; is_in_list = s.is_in_list })
  paren-step e = rw e refl

  pub bracket-step : inner (record s { tokens = ts; is_behind_operand = false; is_in_list = true }) ≡ Ok (x, record s1 { tokens = placed b (token.Sign sign.CloseList) ∷ us })
      → between true sign.OpenList sign.CloseList inner (record s { tokens = placed a (token.Sign sign.OpenList) ∷ ts }) ≡ Ok (x, record s1 { tokens = us; is_behind_operand = true; is_in_list = s.is_in_list })
  bracket-step e = rw e refl

-- ---- one thing behind the other

-- what a series does behind one more thing
abbrev pub behind_one : {A : Type 0} → (List A → Read A) → ℕ → List A → A → Read (List A)
behind_one one n before x = taken sign.Comma >>= (λ comma. if comma then series one n (before ++ x ∷ []) else give (before ++ x ∷ []))

pub series-step : {A : Type 0} (one : List A → Read A) (n : ℕ) (before : List A) (s s1 : State) (x : A) → 0 < n → one before s ≡ Ok (x, s1) → series one n before s ≡ behind_one one (n - 1) before x s1
series-step one zero before s s1 x some e = absurd (omega arith)
series-step one (suc n) before s s1 x some e = let less : suc n - 1 ≡ n = omega arith in rw e (ap (λ k. behind_one one k before x s1) (sym less))

-- no comma follows
pub behind-last : {A : Type 0} (one : List A → Read A) (n : ℕ) (before : List A) (x : A) (s : State) → is_sign sign.Comma (token_of s.tokens) ≡ false → behind_one one n before x s ≡ Ok (before ++ x ∷ [], s)
behind-last one n before x s e = rw e refl

-- one argument more, within the limit
pub argument-step : (one : Read Tm) (n : ℕ) (s : State) → nat_le ARITY_LIMIT n ≡ false → one_more true n one s ≡ one s
argument-step one n s e = rw e refl

-- what is done behind the elements of a list
abbrev pub behind_elements : Read Tm → List Tm → Read Tm
behind_elements one ts = taken sign.Bar >>= (λ bar. (if bar then one else give (app 0 nil)) >>= (λ tail. give (list_of ts tail)))

abbrev pub element : Read Tm → List Tm → Read Tm
element one before = one_more false (length before) one

-- the elements of a list from here on, behind these
abbrev pub elements_from : Read Tm → ℕ → List Tm → Read Tm
elements_from one n before = series (element one) n before >>= behind_elements one

pub elements-step : (one : Read Tm) (s : State) → is_sign sign.CloseList (token_of s.tokens) ≡ false → elements_if one s ≡ elements_from one (length s.tokens) [] s
elements-step one s e = rw e refl

-- what a list does behind one more element
abbrev pub goes_on : Read Tm → ℕ → List Tm → Tm → Read Tm
goes_on one n es h = behind_one (element one) n es h >>= behind_elements one

pub goes-to_end : (one : Read Tm) (n : ℕ) (es : List Tm) (h : Tm) (s : State) → is_sign sign.Comma (token_of s.tokens) ≡ false → is_sign sign.Bar (token_of s.tokens) ≡ false
    → goes_on one n es h s ≡ Ok (list_of (es ++ h ∷ []) (app 0 nil), s)
goes-to_end one n es h s c b = rw (c, b) refl

pub goes-to_bar : (one : Read Tm) (n : ℕ) (es : List Tm) (h : Tm) (s s1 : State) (ts : List Placed) (a : ℕ) (t : Tm) → one (record s { tokens = ts; is_behind_operand = false }) ≡ Ok (t, s1)
    → goes_on one n es h (record s { tokens = placed a (token.Sign sign.Bar) ∷ ts; is_behind_operand = true }) ≡ Ok (list_of (es ++ h ∷ []) t, s1)
goes-to_bar one n es h s s1 ts a t e = rw e refl

-- ---- names with arguments

pub compound-step : (one : Read Tm) (text : List ℕ) (s s1 : State) (ts : List Placed) (a : ℕ) (xs : List Tm)
    → arguments (Some one) (record s { tokens = ts; is_behind_operand = true; names = with_text s.names text }) ≡ Ok (xs, s1)
    → compound (Some one) text (record s { tokens = placed a (token.Name text) ∷ ts }) ≡ Ok (app (place_in s.names text) (listed xs), s1)
compound-step one text s s1 ts a xs e = rw e refl

pub arguments-step : (one : Read Tm) (s : State) (ts : List Placed) (a : ℕ)
    → arguments (Some one) (record s { tokens = placed a (token.Sign sign.Open) ∷ ts }) ≡ arguments_in one (record s { tokens = placed a (token.Sign sign.Open) ∷ ts })
arguments-step one s ts a = refl

pub list-step : (one : Read Tm) (s : State) → term_at_sign (Some one) sign.OpenList s ≡ list_in one s
list-step one s = refl
