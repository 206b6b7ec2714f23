-- Terms of several terms.
use Rattle.std.proofs.Common.{◌≡◌, ℕ, ◌⊎◌, inl, inr, zero, suc, ◌-◌, ◌<◌, List, [], ◌∷◌, ◌++◌, map, true, false, Option, None, Some, Result, Ok, Err, refl, sym, ap, ◌∙◌, arith}
use Rattle.std.proofs.lemmas.List.{map-append}
use Rattle.scasp_num.specs.Number.{Number}
use Rattle.scasp_syntax.specs.declared.term.Term.{Term}
use Rattle.scasp_syntax.specs.View.{tm_of}
use Rattle.scasp_reader_tokens.specs.declared.sign.Sign.{Sign}
use Rattle.scasp_reader_tokens.specs.declared.sign.Sign.TheVariants as sign
use Rattle.scasp_reader_tokens.specs.declared.token.Token.{Token}
use Rattle.scasp_reader_tokens.specs.declared.token.Token.TheVariants as token
use Rattle.scasp_reader_terms.specs.declared.fault.Stop.{Stop}
use Rattle.scasp_reader_terms.specs.declared.fault.Stop.TheVariants.{At, Memory}
use Rattle.scasp_reader_terms.specs.Constants.{constant}
use Rattle.scasp_syntax.specs.Tm.{Tm, nil, cons, app, listed, pushed}
use Rattle.scasp_reader_terms.specs.Steps.{Read, State, Does, place_of, token_of, taken, series, unexpected_fault}
use Rattle.scasp_reader_terms.specs.Terms.{list_of, compound, variable_term, term_at_sign, term_at, term, term_with, below}

pub listed-push : (ts : List Tm) (t : Tm) → pushed (listed ts) t ≡ listed (ts ++ t ∷ [])
listed-push [] t = refl
listed-push (u ∷ ts) t = ap (cons u) (listed-push ts t)

pub list_of-push : (ts : List Tm) (t tail : Tm) → list_of (ts ++ t ∷ []) tail ≡ list_of ts (app 1 (cons t (cons tail nil)))
list_of-push [] t tail = refl
list_of-push (u ∷ ts) t tail = ap (λ l. app 1 (cons u (cons l nil))) (list_of-push ts t tail)

-- the last of several terms, taken off
pub list_of-popped : (old new : List Term) (t : Term) (tail : Tm) → old ≡ new ++ t ∷ [] → list_of (map tm_of old) tail ≡ list_of (map tm_of new) (app 1 (cons (tm_of t) (cons tail nil)))
list_of-popped old new t tail e =
    ap (λ ts. list_of (map tm_of ts) tail) e ∙ ap (λ ts. list_of ts tail) (map-append tm_of new (t ∷ [])) ∙ list_of-push (map tm_of new) (tm_of t) tail

pub term-is : (room : ℕ) → term room ≡ term_with (below term room)
unfolding term
term-is zero = refl
term-is (suc room) = refl

-- where a bracket more may be opened
pub below_some : {A : Type 0} (f : ℕ → Read A) (room : ℕ) → 0 < room → below f room ≡ Some (f (room - 1))
below_some f zero h = absurd (omega arith)
below_some f (suc room) h = let e : suc room - 1 ≡ room = omega arith in ap (λ r. Some (f r)) (sym e)

-- a step that goes like another from here does what it does
pub Does_same : {A B : Type 0} (view : B → A) (f g : Read A) (old : State) (r : Result B Stop) (new : State) → f old ≡ g old → Does view g old r new → Does view f old r new
Does_same view f g old (Ok x) new e d = e ∙ d
Does_same view f g old (Err (At fault)) new e d = e ∙ d
Does_same view f g old (Err Memory) new e d = tt

module _ (room : ℕ) (s : State) where
  at_token : (t : Option Token) → token_of s.tokens ≡ t → term room s ≡ term_at (below term room) (place_of s.tokens) t s
  at_token t e = ap (λ f. f s) (term-is room) ∙ ap (λ x. term_at (below term room) (place_of s.tokens) x s) e

  pub term_variable : (text : List ℕ) → token_of s.tokens ≡ Some (token.Variable text) → term room s ≡ variable_term (place_of s.tokens) text s
  term_variable text e = at_token _ e

  pub term_name : (text : List ℕ) → token_of s.tokens ≡ Some (token.Name text) → term room s ≡ compound (below term room) text s
  term_name text e = at_token _ e

  pub term_number : (q : Option Number) → token_of s.tokens ≡ Some (token.Number q) → term room s ≡ constant s
  term_number q e = at_token _ e

  pub term_sign : (t : Sign) → token_of s.tokens ≡ Some (token.Sign t) → term room s ≡ term_at_sign (below term room) t s
  term_sign t e = at_token _ e

  pub term_none : token_of s.tokens ≡ None → term room s ≡ Err (unexpected_fault s)
  term_none e = at_token _ e

  -- a token that begins no term
  pub term_other : (t : Token) → token_of s.tokens ≡ Some t
      → (t ≡ token.Not) ⊎ ((t ≡ token.Abducible) ⊎ ((t ≡ token.SkippedDirective) ⊎ ((t ≡ token.UnclosedDirective) ⊎ ((t ≡ token.OtherDirective) ⊎ ((t ≡ token.BadByte) ⊎ ((t ≡ token.Unclosed) ⊎ (t ≡ token.End)))))))
      → term room s ≡ Err (unexpected_fault s)
  term_other t e (inl n) = at_token _ (e ∙ ap Some n)
  term_other t e (inr (inl n)) = at_token _ (e ∙ ap Some n)
  term_other t e (inr (inr (inl n))) = at_token _ (e ∙ ap Some n)
  term_other t e (inr (inr (inr (inl n)))) = at_token _ (e ∙ ap Some n)
  term_other t e (inr (inr (inr (inr (inl n))))) = at_token _ (e ∙ ap Some n)
  term_other t e (inr (inr (inr (inr (inr (inl n)))))) = at_token _ (e ∙ ap Some n)
  term_other t e (inr (inr (inr (inr (inr (inr (inl n))))))) = at_token _ (e ∙ ap Some n)
  term_other t e (inr (inr (inr (inr (inr (inr (inr n))))))) = at_token _ (e ∙ ap Some n)

-- a thing more of a series: with a comma behind it, or without
module _ {A : Type 0} (one : List A → Read A) (n : ℕ) (before : List A) (some : 0 < n) (s s1 s2 : State) (x : A) (is_one : one before s ≡ Ok (x, s1)) where
  pub series_last : taken sign.Comma s1 ≡ Ok (false, s2) → series one n before s ≡ Ok (before ++ x ∷ [], s2)
  series_last c = by n some
    where
      by : (m : ℕ) → 0 < m → series one m before s ≡ Ok (before ++ x ∷ [], s2)
      by zero h = absurd (omega arith)
      by (suc m) h = rw is_one (rw c refl)

  pub series_more : taken sign.Comma s1 ≡ Ok (true, s2) → series one n before s ≡ series one (n - 1) (before ++ x ∷ []) s2
  series_more c = by n some
    where
      by : (m : ℕ) → 0 < m → series one m before s ≡ series one (m - 1) (before ++ x ∷ []) s2
      by zero h = absurd (omega arith)
      by (suc m) h = let e : suc m - 1 ≡ m = omega arith in rw is_one (rw c (ap (λ k. series one k (before ++ x ∷ []) s2) (sym e)))
