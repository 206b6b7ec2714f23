-- Where a term begins: by its first tokens.
use Rattle.std.proofs.Common.{◌≡◌, ◌≢◌, ◌∙◌, ℕ, ◌==◌, pos, neg_ℤ, Bool, true, false, List, [], ◌∷◌, drop, codes, Option, None, Some, refl, sym, ap}
use Rattle.std.specs.Option.{option_map}
use Rattle.std.specs.Prelude.{if◌then◌else◌}
use Rattle.std.specs.Str.{bytes_eq}
use Rattle.std.proofs.lemmas.Bool.{eqb-true}
use Rattle.scasp_syntax.specs.Tm.{Tm}
use Rattle.scasp_answers_terms.specs.Tokens.Tokens.{Token, word, quoted, variable, digits, fraction, minus, plus, star, comma, bar, paren, close, bracket, unbracket, sign, bad}
use Rattle.scasp_answers_terms.specs.Tokens.Names.{name_of}
use Rattle.scasp_answers_terms.specs.Tokens.Terms.{Bracket, call, elements, called, constant, whole, quotient, wants, ends, elements_at, listed_until}
use Rattle.scasp_answers_terms.specs.Tokens.View.{first_token}
use Rattle.scasp_answers_terms.specs.Terms.Levels.{named}

-- the next token stands in front of the others
pub first-is : (ts : List Token) (u : Token) → first_token ts ≡ Some u → ts ≡ u ∷ drop 1 ts
first-is [] u e = cc
first-is (t ∷ ts) u e = let same : t ≡ u = cc in ap (λ x. x ∷ ts) same

pub name-of : (w : List ℕ) → bytes_eq w (codes "not") ≡ false → name_of (word w) ≡ Some w
name-of w e = rw e refl

pub no-name : (w : List ℕ) → bytes_eq w (codes "not") ≡ true → name_of (word w) ≡ None
no-name w e = rw e refl

not-zero : (n : ℕ) → n ≢ 0 → (t : Bool) → (n == 0) ≡ t → t ≡ false
not-zero n h true e = absurd (h (eqb-true n 0 e))
not-zero n h false e = refl

module _ (place : List ℕ → ℕ) (o : List Bracket) (b : List Tm) where
  -- ---- names

  alone : (w : List ℕ) (n : Option (List ℕ)) → n ≡ Some w → (ts : List Token) → ends place o b (constant (option_map place n)) ts ≡ ends place o b (called (place w) []) ts
  alone w n e ts = ap (λ m. ends place o b (constant (option_map place m)) ts) e

  none : (n : Option (List ℕ)) → n ≡ None → (ts : List Token) → ends place o b (constant (option_map place n)) ts ≡ None
  none n e ts = ap (λ m. ends place o b (constant (option_map place m)) ts) e

  pub word-named : (w : List ℕ) (ts : List Token) → name_of (word w) ≡ Some w → wants place o b (word w ∷ ts) ≡ named place o b (place w) ts
  word-named w [] e = alone w _ e []
  word-named w (word v ∷ ts) e = alone w _ e (word v ∷ ts)
  word-named w (quoted v ∷ ts) e = alone w _ e (quoted v ∷ ts)
  word-named w (variable x ∷ ts) e = alone w _ e (variable x ∷ ts)
  word-named w (digits n ∷ ts) e = alone w _ e (digits n ∷ ts)
  word-named w (fraction n d ∷ ts) e = alone w _ e (fraction n d ∷ ts)
  word-named w (minus ∷ ts) e = alone w _ e (minus ∷ ts)
  word-named w (plus ∷ ts) e = alone w _ e (plus ∷ ts)
  word-named w (star ∷ ts) e = alone w _ e (star ∷ ts)
  word-named w (comma ∷ ts) e = alone w _ e (comma ∷ ts)
  word-named w (bar ∷ ts) e = alone w _ e (bar ∷ ts)
  word-named w (paren ∷ ts) e = ap (λ (m : Option (List ℕ)). elim m [ None ↦ None | Some text ↦ wants place (call (place text) b ∷ o) [] ts ]) e
  word-named w (close ∷ ts) e = alone w _ e (close ∷ ts)
  word-named w (bracket ∷ ts) e = alone w _ e (bracket ∷ ts)
  word-named w (unbracket ∷ ts) e = alone w _ e (unbracket ∷ ts)
  word-named w (sign s ∷ ts) e = alone w _ e (sign s ∷ ts)
  word-named w (bad ∷ ts) e = alone w _ e (bad ∷ ts)

  pub word-none : (w : List ℕ) (ts : List Token) → name_of (word w) ≡ None → wants place o b (word w ∷ ts) ≡ None
  word-none w [] e = none _ e []
  word-none w (word v ∷ ts) e = none _ e (word v ∷ ts)
  word-none w (quoted v ∷ ts) e = none _ e (quoted v ∷ ts)
  word-none w (variable x ∷ ts) e = none _ e (variable x ∷ ts)
  word-none w (digits n ∷ ts) e = none _ e (digits n ∷ ts)
  word-none w (fraction n d ∷ ts) e = none _ e (fraction n d ∷ ts)
  word-none w (minus ∷ ts) e = none _ e (minus ∷ ts)
  word-none w (plus ∷ ts) e = none _ e (plus ∷ ts)
  word-none w (star ∷ ts) e = none _ e (star ∷ ts)
  word-none w (comma ∷ ts) e = none _ e (comma ∷ ts)
  word-none w (bar ∷ ts) e = none _ e (bar ∷ ts)
  word-none w (paren ∷ ts) e = ap (λ (m : Option (List ℕ)). elim m [ None ↦ None | Some text ↦ wants place (call (place text) b ∷ o) [] ts ]) e
  word-none w (close ∷ ts) e = none _ e (close ∷ ts)
  word-none w (bracket ∷ ts) e = none _ e (bracket ∷ ts)
  word-none w (unbracket ∷ ts) e = none _ e (unbracket ∷ ts)
  word-none w (sign s ∷ ts) e = none _ e (sign s ∷ ts)
  word-none w (bad ∷ ts) e = none _ e (bad ∷ ts)

  quoted-named : (q : List ℕ) (ts : List Token) → wants place o b (quoted q ∷ ts) ≡ named place o b (place q) ts
  quoted-named q [] = refl
  quoted-named q (word v ∷ ts) = refl
  quoted-named q (quoted v ∷ ts) = refl
  quoted-named q (variable x ∷ ts) = refl
  quoted-named q (digits n ∷ ts) = refl
  quoted-named q (fraction n d ∷ ts) = refl
  quoted-named q (minus ∷ ts) = refl
  quoted-named q (plus ∷ ts) = refl
  quoted-named q (star ∷ ts) = refl
  quoted-named q (comma ∷ ts) = refl
  quoted-named q (bar ∷ ts) = refl
  quoted-named q (paren ∷ ts) = refl
  quoted-named q (close ∷ ts) = refl
  quoted-named q (bracket ∷ ts) = refl
  quoted-named q (unbracket ∷ ts) = refl
  quoted-named q (sign s ∷ ts) = refl
  quoted-named q (bad ∷ ts) = refl

  pub begin-quoted : (q : List ℕ) (ts rest : List Token) → first_token ts ≡ Some (quoted q) → rest ≡ drop 1 ts → wants place o b ts ≡ named place o b (place q) rest
  begin-quoted q ts rest e r = ap (wants place o b) (first-is ts (quoted q) e) ∙ quoted-named q (drop 1 ts) ∙ ap (named place o b (place q)) (sym r)

  -- ---- numbers with a sign

  pub negative-digits : (n : ℕ) (ts rest : List Token) → first_token ts ≡ Some (digits n) → n ≢ 0 → rest ≡ drop 1 ts → wants place o b (minus ∷ ts) ≡ ends place o b (whole (neg_ℤ (pos n))) rest
  negative-digits n ts rest e h r =
      let zero : (n == 0) ≡ false = not-zero n h (n == 0) refl in
      ap (λ l. wants place o b (minus ∷ l)) (first-is ts (digits n) e)
      ∙ ap (λ (t : Bool). if t then None else ends place o b (whole (neg_ℤ (pos n))) (drop 1 ts)) zero
      ∙ ap (ends place o b (whole (neg_ℤ (pos n)))) (sym r)

  pub negative-fraction : (n d : ℕ) (ts rest : List Token) → first_token ts ≡ Some (fraction n d) → rest ≡ drop 1 ts → wants place o b (minus ∷ ts) ≡ ends place o b (quotient (neg_ℤ (pos n)) d) rest
  negative-fraction n d ts rest e r =
      ap (λ l. wants place o b (minus ∷ l)) (first-is ts (fraction n d) e) ∙ ap (ends place o b (quotient (neg_ℤ (pos n)) d)) (sym r)

  -- ---- brackets

  pub list-open : (ts : List Token) → first_token ts ≢ Some unbracket → wants place o b (bracket ∷ ts) ≡ wants place (elements b ∷ o) [] ts
  list-open [] e = refl
  list-open (word v ∷ ts) e = refl
  list-open (quoted v ∷ ts) e = refl
  list-open (variable x ∷ ts) e = refl
  list-open (digits n ∷ ts) e = refl
  list-open (fraction n d ∷ ts) e = refl
  list-open (minus ∷ ts) e = refl
  list-open (plus ∷ ts) e = refl
  list-open (star ∷ ts) e = refl
  list-open (comma ∷ ts) e = refl
  list-open (bar ∷ ts) e = refl
  list-open (paren ∷ ts) e = refl
  list-open (close ∷ ts) e = refl
  list-open (bracket ∷ ts) e = refl
  list-open (unbracket ∷ ts) e = absurd (e refl)
  list-open (sign s ∷ ts) e = refl
  list-open (bad ∷ ts) e = refl

  pub named-alone : (f : ℕ) (ts : List Token) → first_token ts ≢ Some paren → named place o b f ts ≡ ends place o b (called f []) ts
  named-alone f [] e = refl
  named-alone f (word v ∷ ts) e = refl
  named-alone f (quoted v ∷ ts) e = refl
  named-alone f (variable x ∷ ts) e = refl
  named-alone f (digits n ∷ ts) e = refl
  named-alone f (fraction n d ∷ ts) e = refl
  named-alone f (minus ∷ ts) e = refl
  named-alone f (plus ∷ ts) e = refl
  named-alone f (star ∷ ts) e = refl
  named-alone f (comma ∷ ts) e = refl
  named-alone f (bar ∷ ts) e = refl
  named-alone f (paren ∷ ts) e = absurd (e refl)
  named-alone f (close ∷ ts) e = refl
  named-alone f (bracket ∷ ts) e = refl
  named-alone f (unbracket ∷ ts) e = refl
  named-alone f (sign s ∷ ts) e = refl
  named-alone f (bad ∷ ts) e = refl

-- ---- lists of terms in brackets

pub elements-some : (place : List ℕ → ℕ) (ts : List Token) → first_token ts ≢ Some unbracket → elements_at place ts ≡ listed_until (codes "]") place ts
elements-some place [] e = refl
elements-some place (word v ∷ ts) e = refl
elements-some place (quoted v ∷ ts) e = refl
elements-some place (variable x ∷ ts) e = refl
elements-some place (digits n ∷ ts) e = refl
elements-some place (fraction n d ∷ ts) e = refl
elements-some place (minus ∷ ts) e = refl
elements-some place (plus ∷ ts) e = refl
elements-some place (star ∷ ts) e = refl
elements-some place (comma ∷ ts) e = refl
elements-some place (bar ∷ ts) e = refl
elements-some place (paren ∷ ts) e = refl
elements-some place (close ∷ ts) e = refl
elements-some place (bracket ∷ ts) e = refl
elements-some place (unbracket ∷ ts) e = absurd (e refl)
elements-some place (sign s ∷ ts) e = refl
elements-some place (bad ∷ ts) e = refl
