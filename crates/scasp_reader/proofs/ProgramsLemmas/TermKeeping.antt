-- The variables of a term that is read are among the clause's.
use Rattle.std.proofs.Common.{◌≡◌, ℕ, zero, suc, ◌≤◌, Bool, true, false, if◌then◌else◌, List, [], ◌∷◌, length, Option, None, Some, refl, arith}
use Rattle.std.proofs.lemmas.Bool.{and_parts, and_from, ltb-true, lt-ltb}
use Rattle.scasp_num.specs.Number.{Number}
use Rattle.scasp_syntax.specs.Tm.{Tm, Tms, var, num, app, nil, cons, listed}
use Rattle.scasp_syntax.specs.WellFormed.{is_below, are_below}
use Rattle.scasp_reader_tokens.specs.declared.sign.Sign.{Sign}
use Rattle.scasp_reader_tokens.specs.declared.sign.Sign.TheVariants as sign
use Rattle.scasp_reader_tokens.specs.declared.token.Token.{Token}
use Rattle.scasp_reader_tokens.specs.declared.token.Token.TheVariants as token
use Rattle.scasp_reader_terms.specs.Steps.{State, Read, give, stop_at, behind, place_of, token_of, is_sign}
use Rattle.scasp_name.specs.Texts.{with_text}
use Rattle.scasp_reader_terms.specs.declared.fault.Kind.TheVariants as kind
use Rattle.scasp_reader_terms.specs.Constants.{noted_number, number_of, number, is_zero_number, quotient_at, divided, number_term, constant}
use Rattle.scasp_reader_terms.specs.Terms.{inside, one_more, several, arguments_in, arguments, compound, list_of, elements, elements_if, list_in, variable_term, term_at_sign, term_at, term_with, term, below}
use Rattle.scasp_reader.proofs.ProgramsLemmas.Keeping.{Post, Post_ok, Post_err, Post_then, Any, le_self, taken_keeps, note_if_keeps, Below, variable_at_keeps, Lasts, between_keeps, AllOf, AllOf-lasts, series_keeps}

-- each variable of the term is below n
abbrev pub IsBelow : ℕ → Tm → Type 0
IsBelow n t = is_below n t ≡ true

mutual
  tm_lasts : (n m : ℕ) → n ≤ m → (t : Tm) → is_below n t ≡ true → is_below m t ≡ true
  tm_lasts n m le (var x) h = let k = ltb-true x n h in lt-ltb x m (omega arith)
  tm_lasts n m le (num q) h = refl
  tm_lasts n m le (app f ts) h = tms_lasts n m le ts h

  tms_lasts : (n m : ℕ) → n ≤ m → (ts : Tms) → are_below n ts ≡ true → are_below m ts ≡ true
  tms_lasts n m le nil h = refl
  tms_lasts n m le (cons t ts) h =
      let p = and_parts (is_below n t) (are_below n ts) h in
      and_from (is_below m t) (are_below m ts) (tm_lasts n m le t p.0) (tms_lasts n m le ts p.1)

pub IsBelow-lasts : Lasts IsBelow
IsBelow-lasts n m le t h = tm_lasts n m le t h

-- each variable of the terms is below n
abbrev pub AreBelow : ℕ → Tms → Type 0
AreBelow n ts = are_below n ts ≡ true

pub AreBelow-lasts : Lasts AreBelow
AreBelow-lasts n m le ts h = tms_lasts n m le ts h

-- ---- numbers

noted_number_keeps : (at : ℕ) (q : Option Number) (s : State) → Post Any (length s.variables) (noted_number at q s)
noted_number_keeps at q s = Post_then Any Any _ _ _ (note_if_keeps s _ at _) (λ u t le v. Post_ok Any _ q t (le_self _) tt)

pub number_keeps : (s : State) → Post Any (length s.variables) (number s)
number_keeps s = by (place_of s.tokens) (token_of s.tokens)
  where
    by : (at : ℕ) (o : Option Token) → Post Any (length s.variables) (number_of at o s)
    by at (Some (token.Number q)) = noted_number_keeps at q (behind s)
    by at o = Post_err Any _ _

quotient_at_keeps : (at : ℕ) (p q : Option Number) (s : State) → Post Any (length s.variables) (quotient_at at p q s)
quotient_at_keeps at None q s = Post_ok Any _ None s (le_self _) tt
quotient_at_keeps at (Some p) None s = Post_ok Any _ None s (le_self _) tt
quotient_at_keeps at (Some p) (Some q) s = noted_number_keeps at _ s

divided_keeps : (at : ℕ) (p : Option Number) (s : State) → Post Any (length s.variables) (divided at p s)
divided_keeps at p s = Post_then Any Any _ _ _ (number_keeps s) (λ q t le u. by (is_zero_number q) q t)
  where
    by : (b : Bool) (q : Option Number) (t : State) → Post Any (length t.variables) ((if b then stop_at (place_of s.tokens) kind.Expected else quotient_at at p q) t)
    by true q t = Post_err Any _ _
    by false q t = quotient_at_keeps at p q t

number_term-below : (minus : Bool) (q : Option Number) (n : ℕ) → is_below n (number_term minus q) ≡ true
number_term-below true (Some q) n = refl
number_term-below false (Some q) n = refl
number_term-below true None n = refl
number_term-below false None n = refl

constant_keeps : (s : State) → Post IsBelow (length s.variables) (constant s)
constant_keeps s =
    Post_then Any IsBelow _ _ _ (taken_keeps s sign.Minus)
    (λ minus s1 le u. Post_then Any IsBelow _ _ _ (number_keeps s1)
    (λ p s2 le u. Post_then Any IsBelow _ _ _ (taken_keeps s2 sign.Over)
    (λ over s3 le u. Post_then Any IsBelow _ _ _ (by over (place_of s2.tokens) p s3)
    (λ q s4 le u. Post_ok IsBelow _ (number_term minus q) s4 (le_self _) (number_term-below minus q _)))))
  where
    by : (b : Bool) (at : ℕ) (p : Option Number) (t : State) → Post Any (length t.variables) ((if b then divided at p else give p) t)
    by true at p t = divided_keeps at p t
    by false at p t = Post_ok Any _ p t (le_self _) tt

-- ---- terms of terms

pub listed-below : (n : ℕ) (ts : List Tm) → AllOf IsBelow n ts → are_below n (listed ts) ≡ true
listed-below n [] h = refl
listed-below n (t ∷ ts) h = and_from (is_below n t) (are_below n (listed ts)) h.0 (listed-below n ts h.1)

list_of-below : (n : ℕ) (ts : List Tm) (tail : Tm) → AllOf IsBelow n ts → is_below n tail ≡ true → is_below n (list_of ts tail) ≡ true
list_of-below n [] tail h e = e
list_of-below n (t ∷ ts) tail h e =
    and_from (is_below n t) (are_below n (cons (list_of ts tail) nil)) h.0 (and_from (is_below n (list_of ts tail)) true (list_of-below n ts tail h.1 e) refl)

-- what is read in a bracket, where one may be opened
abbrev pub Inner : Option (Read Tm) → Type 0
Inner None = Unit {0}
Inner (Some one) = (s : State) → Post IsBelow (length s.variables) (one s)

module _ (one : Read Tm) (h : (s : State) → Post IsBelow (length s.variables) (one s)) where
  several_keeps : (are_arguments : Bool) (s : State) → Post (AllOf IsBelow) (length s.variables) (several are_arguments one s)
  several_keeps are_arguments s =
      series_keeps IsBelow IsBelow-lasts (λ before. one_more are_arguments (length before) one)
      (λ before t. Post_then Any IsBelow _ _ _ (note_if_keeps t _ _ _) (λ u v le w. h v)) (length s.tokens) [] s tt

  arguments_in_keeps : (s : State) → Post (AllOf IsBelow) (length s.variables) (arguments_in one s)
  arguments_in_keeps s = between_keeps (AllOf IsBelow) (AllOf-lasts IsBelow IsBelow-lasts) false sign.Open sign.Close (several true one) (several_keeps true) s

  elements_keeps : (s : State) → Post IsBelow (length s.variables) (elements one s)
  elements_keeps s =
      Post_then (AllOf IsBelow) IsBelow _ _ _ (several_keeps false s)
      (λ ts t le all. Post_then Any IsBelow _ _ _ (taken_keeps t sign.Bar)
      (λ bar u le2 v. Post_then IsBelow IsBelow _ _ _ (by bar u)
      (λ tail w le3 e. Post_ok IsBelow _ (list_of ts tail) w (le_self _) (list_of-below _ ts tail (AllOf-lasts IsBelow IsBelow-lasts _ _ (omega arith) ts all) e))))
    where
      by : (b : Bool) (t : State) → Post IsBelow (length t.variables) ((if b then one else give (app 0 nil)) t)
      by true t = h t
      by false t = Post_ok IsBelow _ (app 0 nil) t (le_self _) refl

  elements_if_keeps : (s : State) → Post IsBelow (length s.variables) (elements_if one s)
  elements_if_keeps s = by (is_sign sign.CloseList (token_of s.tokens))
    where
      by : (b : Bool) → Post IsBelow (length s.variables) (if b then give (app 0 nil) s else elements one s)
      by true = Post_ok IsBelow _ (app 0 nil) s (le_self _) refl
      by false = elements_keeps s

  list_in_keeps : (s : State) → Post IsBelow (length s.variables) (list_in one s)
  list_in_keeps s = between_keeps IsBelow IsBelow-lasts true sign.OpenList sign.CloseList (elements_if one) elements_if_keeps s

pub arguments_keeps : (inner : Option (Read Tm)) → Inner inner → (s : State) → Post (AllOf IsBelow) (length s.variables) (arguments inner s)
arguments_keeps inner h s = by (is_sign sign.Open (token_of s.tokens)) inner h
  where
    by : (b : Bool) (inner : Option (Read Tm)) → Inner inner → Post (AllOf IsBelow) (length s.variables) (if b then inside inner arguments_in s else give [] s)
    by true None h = Post_err (AllOf IsBelow) _ _
    by true (Some one) h = arguments_in_keeps one h s
    by false inner h = Post_ok (AllOf IsBelow) _ [] s (le_self _) tt

compound_keeps : (inner : Option (Read Tm)) → Inner inner → (text : List ℕ) (s : State) → Post IsBelow (length s.variables) (compound inner text s)
compound_keeps inner h text s =
    Post_then (AllOf IsBelow) IsBelow _ _ _ (arguments_keeps inner h (record (behind s) { names = with_text s.names text }))
    (λ ts t le all. Post_ok IsBelow _ _ t (le_self _) (listed-below _ ts all))

variable_term_keeps : (at : ℕ) (text : List ℕ) (s : State) → Post IsBelow (length s.variables) (variable_term at text s)
variable_term_keeps at text s =
    Post_then Below IsBelow _ _ _ (variable_at_keeps at text (behind s)) (λ x t le h. Post_ok IsBelow _ (var x) t (le_self _) (lt-ltb x _ h))

term_with_keeps : (inner : Option (Read Tm)) → Inner inner → (s : State) → Post IsBelow (length s.variables) (term_with inner s)
term_with_keeps inner h s = by (place_of s.tokens) (token_of s.tokens)
  where
    list : (i : Option (Read Tm)) → Inner i → Post IsBelow (length s.variables) (inside i list_in s)
    list None h = Post_err IsBelow _ _
    list (Some one) h = list_in_keeps one h s

    sign_by : (g : Sign) → Post IsBelow (length s.variables) (term_at_sign inner g s)
    sign_by sign.Minus = constant_keeps s
    sign_by sign.OpenList = list inner h
    sign_by g = Post_err IsBelow _ _

    by : (at : ℕ) (o : Option Token) → Post IsBelow (length s.variables) (term_at inner at o s)
    by at (Some (token.Variable text)) = variable_term_keeps at text s
    by at (Some (token.Number q)) = constant_keeps s
    by at (Some (token.Name text)) = compound_keeps inner h text s
    by at (Some (token.Sign g)) = sign_by g
    by at o = Post_err IsBelow _ _

pub term_keeps : (room : ℕ) (s : State) → Post IsBelow (length s.variables) (term room s)
unfolding term
term_keeps zero s = term_with_keeps None tt s
term_keeps (suc room) s = term_with_keeps (Some (term room)) (term_keeps room) s

pub below_keeps : (room : ℕ) → Inner (below term room)
below_keeps zero = tt
below_keeps (suc room) = term_keeps room
