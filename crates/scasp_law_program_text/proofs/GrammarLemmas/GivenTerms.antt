-- The tokens of a term that means something are read as this term.
use Rattle.std.proofs.Common.{◌≡◌, ℕ, zero, suc, ◌+◌, ◌<◌, ◌≤◌, Bool, true, false, ◌&&◌, nat_lt, if◌then◌else◌, List, [], ◌∷◌, ◌++◌, length, Option, None, Some, is_none, Ok, refl, sym, ap, subst, ◌∙◌, append_assoc, length-append, arith}
use Rattle.std.specs.Prelude.{nat_le}
use Rattle.std.proofs.lemmas.Bool.Decides.{nat_tests}
use Rattle.std.proofs.lemmas.List.{length-map}
use Rattle.scasp_num.specs.Number.{Number}
use Rattle.scasp_num.specs.Arithmetic.{quotient_of}
use Rattle.scasp_num.specs.Linear.{is_zero}
use Rattle.scasp_syntax.specs.Tm.{Tm, var, app, nil, listed}
use Rattle.scasp_reader_tokens.specs.declared.sign.Sign.TheVariants as sign
use Rattle.scasp_reader_tokens.specs.declared.token.Token.{Token}
use Rattle.scasp_reader_tokens.specs.declared.token.Token.TheVariants as token
use Rattle.scasp_reader_tokens.specs.declared.token.Placed.{Placed}
use Rattle.scasp_reader_terms.specs.declared.fault.Count.TheVariants as count
use Rattle.scasp_reader_terms.specs.declared.fault.Kind.TheVariants as kind
use Rattle.scasp_reader_terms.specs.declared.reader.TheConstants.{VARIABLE_LIMIT}
use Rattle.scasp_reader_terms.specs.declared.terms.TheConstants.{ARITY_LIMIT}
use Rattle.scasp_reader_terms.specs.Constants.{number_of, number, is_zero_number, quotient_at, divided, number_term, constant}
use Rattle.scasp_reader_terms.specs.Names.{place_in, known_variable, with_variable, put_variable, new_variable, variable_at}
use Rattle.scasp_reader_terms.specs.Steps.{State, Read, then_read, ◌>>=◌, give, get, stop_at, behind, place_of, is_sign, taken, note_if, series}
use Rattle.scasp_reader_terms.specs.Terms.{inside, one_more, several, arguments_in, arguments, compound, list_of, elements, elements_if, term, below}
use Rattle.scasp_reader_terms.proofs.VariableLemmas.{few-put}
use Rattle.scasp_reader_terms.proofs.TermLemmas.{term_variable, term_name, term_number, term_sign}
use Rattle.scasp_law_program_text.specs.Grammar.Known.{Known, means, numbered}
use Rattle.scasp_law_program_text.specs.Grammar.Trees.{Term, a_variable, a_number, a_fraction, a_name, an_empty_list, a_list, a_list_with, Terms, one_term, more_terms, Arguments, no_arguments, some_arguments}
use Rattle.scasp_law_program_text.specs.Grammar.Spelling.{minus_if, term_tokens, terms_tokens, arguments_tokens}
use Rattle.scasp_law_program_text.specs.Grammar.Terms.{number_meaning, limited_arguments, term_meaning, terms_meaning, arguments_meaning}
use Rattle.scasp_law_program_text.proofs.GrammarLemmas.Steps.{known, opened}
use Rattle.scasp_law_program_text.proofs.GrammarLemmas.Leaves.{numbered-meant, append-minus}
use Rattle.scasp_law_program_text.proofs.GrammarLemmas.Terms.{behind_name}
use Rattle.scasp_law_program_text.proofs.GrammarLemmas.Given.{first, same, At, next-is, At_behind, At_so, Gives, Gives_by, value-is, Gives_ok, Gives_so, Gives_then, made, only-made, not-nothing, Gives_bind, Gives_taken, Gives_not_taken, Gives_note, between-gives}

-- ---- variables

abbrev new_by : Bool → List ℕ → Known → Option (ℕ × Known)
new_by b text k = if b then None else Some (length k.variables, record k { variables = k.variables ++ text ∷ [] })

pub variable-given : (at : ℕ) (text : List ℕ) (s : State) (ts : List Token) (x : ℕ) (l : Known) → At ts s → numbered text (known s) ≡ Some (x, l) → Gives x ts l (variable_at at text s)
variable-given at text s ts x l h e = by (known_variable text s.variables) refl
  where
    new : (b : Bool) → nat_le VARIABLE_LIMIT (length s.variables) ≡ b
        → new_by b text (known s) ≡ Some (x, l)
        → Gives x ts l (then_read (note_if b at (kind.Limit count.Variables) s) (λ u. put_variable (length s.variables) text))
    new true past e = absurd cc
    new false past e =
        Gives_by x ts l _ _ (few-put (length s.variables) past text s)
        (Gives_ok same (length s.variables) x ts (with_variable text s) l (record { tokens = h.tokens; fault = h.fault }) e)

    by : (o : Option ℕ) → known_variable text s.variables ≡ o → Gives x ts l (elim o [ None ↦ new_variable at text s | Some x ↦ Ok (x, s) ])
    by None k = new (nat_le VARIABLE_LIMIT (length s.variables)) refl (sym (numbered-meant text (known s) None k) ∙ e)
    by (Some n) k = Gives_ok same n x ts s l h (sym (numbered-meant text (known s) (Some n) k) ∙ e)

-- ---- numbers

pub number-given : (p : Option Number) (a : Number) (rest : List Token) (s : State) → p ≡ Some a → At (token.Number p ∷ rest) s → Gives p rest (known s) (number s)
number-given p a rest s e h =
    Gives_by p rest (known s) _ _ (ap (λ o. number_of (place_of s.tokens) o s) (next-is _ s h))
    (Gives_note p rest (known s) (behind s) (is_none p) (place_of s.tokens) kind.NumberTooLarge (λ n. give p) (ap (λ p. is_none p) e)
    (record { state = behind s; is = refl; there = At_behind _ rest s h; knows = refl }))

divided-given : (at : ℕ) (p q : Option Number) (a b c : Number) (rest : List Token) (s : State) → p ≡ Some a → q ≡ Some b → is_zero b.num ≡ false → quotient_of a b ≡ Some c → At (token.Number q ∷ rest) s
    → Gives (quotient_of a b) rest (known s) (divided at p s)
divided-given at p q a b c rest s i j defined is h =
    Gives_then q (quotient_of a b) rest rest (known s) (known s) (number s) (λ q. if is_zero_number q then stop_at (place_of s.tokens) kind.Expected else quotient_at at p q) (number-given q b rest s j h)
    (λ t there knows. Gives_by (quotient_of a b) rest (known s) _ _
    (ap (λ q. (if is_zero_number q then stop_at (place_of s.tokens) kind.Expected else quotient_at at p q) t) j
    ∙ ap (λ z. (if z then stop_at (place_of s.tokens) kind.Expected else quotient_at at p (Some b)) t) defined
    ∙ ap (λ p. quotient_at at p (Some b) t) i)
    (Gives_note (quotient_of a b) rest (known s) t (is_none (quotient_of a b)) at kind.NumberTooLarge (λ n. give (quotient_of a b)) (ap (λ p. is_none p) is)
    (record { state = t; is = refl; there = there; knows = knows })))

number-so : (minus : Bool) (p : Option Number) (a : Number) (k : Known) (x : Tm) (l : Known) → p ≡ Some a → number_meaning minus a k ≡ Some (x, l) → means (number_term minus p) k ≡ means x l
number-so true p a k x l i e = ap (λ p. means (number_term true p) k) i ∙ e
number-so false p a k x l i e = ap (λ p. means (number_term false p) k) i ∙ e

abbrev unsigned : Bool → Read Tm
unsigned minus = number >>= (λ p. get (λ s. place_of s.tokens) >>= (λ at. taken sign.Over >>= (λ over. (if over then divided at p else give p) >>= (λ q. give (number_term minus q)))))

whole-given : (minus : Bool) (p : Option Number) (a : Number) (rest : List Token) (s : State) (x : Tm) (l : Known) → p ≡ Some a → At (token.Number p ∷ rest) s → is_sign sign.Over (first rest) ≡ false
    → number_meaning minus a (known s) ≡ Some (x, l) → Gives x rest l (unsigned minus s)
whole-given minus p a rest s x l i h ends e =
    Gives_then p x rest rest (known s) l (number s) _ (number-given p a rest s i h)
    (λ t there knows. Gives_not_taken x rest l t sign.Over rest _ there ends
    (Gives_ok same (number_term minus p) x rest t l there (number-so minus p a (known t) x l i (ap (λ k. number_meaning minus a k) knows ∙ e))))

part-given : (minus : Bool) (p q : Option Number) (a b c : Number) (rest : List Token) (s : State) (x : Tm) (l : Known) → p ≡ Some a → q ≡ Some b → is_zero b.num ≡ false → quotient_of a b ≡ Some c
    → At (token.Number p ∷ token.Sign sign.Over ∷ token.Number q ∷ rest) s → number_meaning minus c (known s) ≡ Some (x, l) → Gives x rest l (unsigned minus s)
part-given minus p q a b c rest s x l i j defined is h e =
    Gives_then p x (token.Sign sign.Over ∷ token.Number q ∷ rest) rest (known s) l (number s) _ (number-given p a _ s i h)
    (λ t there knows. Gives_taken x rest l t sign.Over (token.Number q ∷ rest) _ there refl
    (λ behind_over. Gives_then (quotient_of a b) x rest rest (known t) l (divided (place_of t.tokens) p (behind t)) _ (divided-given (place_of t.tokens) p q a b c rest (behind t) i j defined is behind_over)
    (λ u after same_still. Gives_ok same (number_term minus (quotient_of a b)) x rest u l after (number-so minus (quotient_of a b) c (known u) x l is (ap (λ k. number_meaning minus c k) (same_still ∙ knows) ∙ e)))))

-- behind a minus, if there is one
constant-given : (minus : Bool) (p : Option Number) (ts rest : List Token) (s : State) (x : Tm) (l : Known) → At (minus_if minus ++ token.Number p ∷ ts) s
    → ((u : State) → At (token.Number p ∷ ts) u → known u ≡ known s → Gives x rest l (unsigned minus u)) → Gives x rest l (constant s)
constant-given true p ts rest s x l h n = Gives_taken x rest l s sign.Minus (token.Number p ∷ ts) unsigned h refl (λ there. n (behind s) there refl)
constant-given false p ts rest s x l h n = Gives_not_taken x rest l s sign.Minus (token.Number p ∷ ts) unsigned h refl (n s h refl)

-- a constant begins with its sign, or with its number
constant-begins : (room : ℕ) (minus : Bool) (p : Option Number) (ts : List Token) (s : State) → At (minus_if minus ++ token.Number p ∷ ts) s → term room s ≡ constant s
constant-begins room true p ts s h = term_sign room s sign.Minus (next-is _ s h)
constant-begins room false p ts s h = term_number room s p (next-is _ s h)

number-term-given : (room : ℕ) (minus : Bool) (p : Option Number) (s : State) (rest : List Token) (x : Tm) (l : Known) → At ((minus_if minus ++ token.Number p ∷ []) ++ rest) s → is_sign sign.Over (first rest) ≡ false
    → term_meaning room (a_number minus p) (known s) ≡ Some (x, l) → Gives x rest l (term room s)
number-term-given room minus p s rest x l h ends e =
    let (a, i, meant) = only-made p (λ q. number_meaning minus q) (known s) x l e in
    let g = At_so _ (minus_if minus ++ token.Number p ∷ rest) s h (sym (append-minus minus (token.Number p) [] rest)) in
    Gives_by x rest l _ _ (constant-begins room minus p rest s g)
    (constant-given minus p rest rest s x l g (λ u there knows. whole-given minus p a rest u x l i there ends (ap (λ k. number_meaning minus a k) knows ∙ meant)))

fraction-term-given : (room : ℕ) (minus : Bool) (p q : Option Number) (s : State) (rest : List Token) (x : Tm) (l : Known) → At ((minus_if minus ++ token.Number p ∷ token.Sign sign.Over ∷ token.Number q ∷ []) ++ rest) s
    → term_meaning room (a_fraction minus p q) (known s) ≡ Some (x, l) → Gives x rest l (term room s)
fraction-term-given room minus p q s rest x l h e =
    let ts = token.Sign sign.Over ∷ token.Number q ∷ rest in
    let (a, i, first_meant) = only-made p _ (known s) x l e in
    let (b, j, both_meant) = only-made q _ (known s) x l first_meant in
    let (defined, quotient_meant) = not-nothing (is_zero b.num) _ (known s) x l both_meant in
    let (c, is, meant) = only-made (quotient_of a b) (λ r. number_meaning minus r) (known s) x l quotient_meant in
    let g = At_so _ (minus_if minus ++ token.Number p ∷ ts) s h (sym (append-minus minus (token.Number p) (token.Sign sign.Over ∷ token.Number q ∷ []) rest)) in
    Gives_by x rest l _ _ (constant-begins room minus p ts s g)
    (constant-given minus p ts rest s x l g (λ u there knows. part-given minus p q a b c rest u x l i j defined is there (ap (λ k. number_meaning minus c k) knows ∙ meant)))

-- ---- what stands behind terms

pub record EndsTerm (rest : List Token) : Type 0 where
  pub not_over : is_sign sign.Over (first rest) ≡ false
  pub not_open : is_sign sign.Open (first rest) ≡ false

record EndsTerms (rest : List Token) : Type 0 where
  ends : EndsTerm rest
  not_comma : is_sign sign.Comma (first rest) ≡ false

abbrev terms_count : Terms → ℕ
terms_count (one_term t) = 1
terms_count (more_terms t ts) = suc (terms_count ts)

counted : (room : ℕ) (ts : Terms) (k : Known) (us : List Tm) (l : Known) → terms_meaning room ts k ≡ Some (us, l) → length us ≡ terms_count ts
counted room (one_term t) k us l e =
    let m = made (term_meaning room t k) (λ u k. Some (u ∷ [], k)) us l e in
    let is : m.value ∷ [] ≡ us = value-is (m.value ∷ []) us m.between l m.rest in
    ap length (sym is)
counted room (more_terms t ts) k us l e =
    let m = made (term_meaning room t k) _ us l e in
    let n = made (terms_meaning room ts m.between) (λ us k. Some (m.value ∷ us, k)) us l m.rest in
    let is : m.value ∷ n.value ≡ us = value-is (m.value ∷ n.value) us n.between l n.rest in
    let fewer = counted room ts m.between n.value n.between n.first in
    ap length (sym is) ∙ ap suc fewer

minus-front : (minus : Bool) (p : Option Number) (ts : List Token) → is_sign sign.CloseList (first ((minus_if minus ++ token.Number p ∷ ts))) ≡ false
minus-front true p ts = refl
minus-front false p ts = refl

pub some-minus : (minus : Bool) (k : Token) (ts : List Token) → 0 < length (minus_if minus ++ k ∷ ts)
some-minus true k ts = omega arith
some-minus false k ts = omega arith

term-front : (t : Term) (rest : List Token) → is_sign sign.CloseList (first (term_tokens t ++ rest)) ≡ false
term-front (a_variable text) rest = refl
term-front (a_number true p) rest = refl
term-front (a_number false p) rest = refl
term-front (a_fraction true p q) rest = refl
term-front (a_fraction false p q) rest = refl
term-front (a_name text args) rest = refl
term-front an_empty_list rest = refl
term-front (a_list ts) rest = refl
term-front (a_list_with ts t) rest = refl

terms-front : (ts : Terms) (rest : List Token) → is_sign sign.CloseList (first (terms_tokens ts ++ rest)) ≡ false
terms-front (one_term t) rest = term-front t rest
terms-front (more_terms t ts) rest = ap (λ us. is_sign sign.CloseList (first us)) (append_assoc (term_tokens t) (token.Sign sign.Comma ∷ terms_tokens ts) rest) ∙ term-front t (token.Sign sign.Comma ∷ (terms_tokens ts ++ rest))

some-term : (t : Term) → 0 < length (term_tokens t)
some-term (a_variable text) = omega arith
some-term (a_number minus p) = some-minus minus (token.Number p) []
some-term (a_fraction minus p q) = some-minus minus (token.Number p) (token.Sign sign.Over ∷ token.Number q ∷ [])
some-term (a_name text args) = omega arith
some-term an_empty_list = omega arith
some-term (a_list ts) = omega arith
some-term (a_list_with ts t) = omega arith

count-within : (ts : Terms) → terms_count ts ≤ length (terms_tokens ts)
count-within (one_term t) = let some = some-term t in omega (arith, some)
count-within (more_terms t ts) = let some = some-term t in let rest = count-within ts in omega (arith, some, rest, length-append (term_tokens t) (token.Sign sign.Comma ∷ terms_tokens ts))

tokens-within : (ts : Terms) (rest : List Token) (s : State) → At (terms_tokens ts ++ rest) s → terms_count ts ≤ length s.tokens
tokens-within ts rest s h =
    let e : length s.tokens ≡ length (terms_tokens ts ++ rest) = sym (length-map s.tokens (λ (t : Placed). t.token)) ∙ ap length h.tokens in
    let n = count-within ts in
    omega (arith, e, n, length-append (terms_tokens ts) rest)

some-count : (ts : Terms) → 0 < terms_count ts
some-count (one_term t) = omega arith
some-count (more_terms t ts) = omega arith

still-few : (are_arguments : Bool) (n c : ℕ) → 0 < c → (are_arguments ≡ true → n + c ≤ ARITY_LIMIT) → (are_arguments && nat_le ARITY_LIMIT n) ≡ false
still-few true n c some few = let f = few refl in grind (arith, nat_tests, some, f)
still-few false n c some few = refl

closing : (front rest : List Token) (k : Token) (ts : List Token) → k ∷ ((front ++ ts) ++ rest) ≡ k ∷ (front ++ (ts ++ rest))
closing front rest k ts = ap (λ us. k ∷ us) (append_assoc front ts rest)

ends_by : (k : Token) (rest : List Token) → is_sign sign.Over (Some k) ≡ false → is_sign sign.Open (Some k) ≡ false → EndsTerm (k ∷ rest)
ends_by k rest e f = record { not_over = e; not_open = f }

-- ---- terms

name-given : (args : Arguments) (text : List ℕ) (room : ℕ) (s : State) (rest : List Token) (x : Tm) (l : Known) → term_meaning room (a_name text args) (known s) ≡ Some (x, l)
    → ((ts : List Tm) (k : Known) → arguments_meaning room args (known (behind_name text s)) ≡ Some (ts, k) → Gives ts rest k (arguments (below term room) (behind_name text s))) → Gives x rest l (compound (below term room) text s)
name-given args text room s rest x l e given =
    let u = behind_name text s in
    Gives_bind same x x rest rest l (arguments (below term room) u) (λ ts. give (app (place_in s.names text) (listed ts))) (arguments_meaning room args (known u)) _ e given
    (λ ts t there i. Gives_ok same (app (place_in s.names text) (listed ts)) x rest t l there i)

mutual
  pub term-given : (t : Term) (room : ℕ) (s : State) (rest : List Token) (x : Tm) (l : Known) → At (term_tokens t ++ rest) s → EndsTerm rest → term_meaning room t (known s) ≡ Some (x, l) → Gives x rest l (term room s)
  term-given (a_variable text) room s rest x l h ends e =
      Gives_by x rest l _ _ (term_variable room s text (next-is _ s h))
      (Gives_bind same x x rest rest l (variable_at (place_of s.tokens) text (behind s)) (λ n. give (var n)) (numbered text (known s)) _ e
      (λ n k i. variable-given (place_of s.tokens) text (behind s) rest n k (At_behind _ rest s h) i)
      (λ n t there i. Gives_ok same (var n) x rest t l there i))
  term-given (a_number minus p) room s rest x l h ends e = number-term-given room minus p s rest x l h ends.not_over e
  term-given (a_fraction minus p q) room s rest x l h ends e = fraction-term-given room minus p q s rest x l h e
  term-given (a_name text args) room s rest x l h ends e = Gives_by x rest l _ _ (term_name room s text (next-is _ s h))
      (name-given args text room s rest x l e
      (λ ts k i. arguments-given args room (behind_name text s) rest ts k (record { tokens = (At_behind _ _ s h).tokens; fault = h.fault }) ends.not_open i))
  term-given an_empty_list zero s rest x l h ends e = absurd cc
  term-given an_empty_list (suc room) s rest x l h ends e =
      let u = opened true s in
      Gives_by x rest l _ _ (term_sign (suc room) s sign.OpenList (next-is _ s h))
      (between-gives x true sign.OpenList sign.CloseList (elements_if (term room)) (token.Sign sign.CloseList ∷ rest) rest l s refl refl h
      (λ there. Gives_by x _ l _ _ (ap (λ b. if b then give (app 0 nil) u else elements (term room) u) (ap (λ o. is_sign sign.CloseList o) (next-is _ u there)))
      (Gives_ok same (app 0 nil) x _ u l there e)))
  term-given (a_list ts) zero s rest x l h ends e = absurd cc
  term-given (a_list ts) (suc room) s rest x l h ends e =
      let u = opened true s in
      let after = token.Sign sign.CloseList ∷ rest in
      Gives_by x rest l _ _ (term_sign (suc room) s sign.OpenList (next-is _ s h))
      (between-gives x true sign.OpenList sign.CloseList (elements_if (term room)) (terms_tokens ts ++ after) rest l s refl refl (At_so _ _ s h (closing (terms_tokens ts) rest (token.Sign sign.OpenList) (token.Sign sign.CloseList ∷ [])))
      (λ there. Gives_by x _ l _ _ (ap (λ b. if b then give (app 0 nil) u else elements (term room) u) (ap (λ o. is_sign sign.CloseList o) (next-is _ u there) ∙ terms-front ts after))
      (Gives_bind same x x after after l (several false (term room) u) _ (terms_meaning room ts (known u)) _ e
      (λ us k i. series-given ts room false (length u.tokens) [] u after us k there (record { ends = ends_by _ rest refl refl; not_comma = refl }) (tokens-within ts after u there) (λ e. absurd cc) i)
      (λ us t close i. Gives_not_taken x after l t sign.Bar after _ close refl (Gives_ok same (list_of us (app 0 nil)) x after t l close i)))))
  term-given (a_list_with ts tail) zero s rest x l h ends e = absurd cc
  term-given (a_list_with ts tail) (suc room) s rest x l h ends e =
      let u = opened true s in
      let after = token.Sign sign.CloseList ∷ rest in
      let barred = token.Sign sign.Bar ∷ (term_tokens tail ++ after) in
      Gives_by x rest l _ _ (term_sign (suc room) s sign.OpenList (next-is _ s h))
      (between-gives x true sign.OpenList sign.CloseList (elements_if (term room)) (terms_tokens ts ++ barred) rest l s refl refl
      (At_so _ _ s h
      (closing (terms_tokens ts) rest (token.Sign sign.OpenList) (token.Sign sign.Bar ∷ (term_tokens tail ++ token.Sign sign.CloseList ∷ []))
      ∙ ap (λ us. token.Sign sign.OpenList ∷ (terms_tokens ts ++ token.Sign sign.Bar ∷ us)) (append_assoc (term_tokens tail) (token.Sign sign.CloseList ∷ []) rest)))
      (λ there. Gives_by x _ l _ _ (ap (λ b. if b then give (app 0 nil) u else elements (term room) u) (ap (λ o. is_sign sign.CloseList o) (next-is _ u there) ∙ terms-front ts barred))
      (Gives_bind same x x barred after l (several false (term room) u) _ (terms_meaning room ts (known u)) _ e
      (λ us k i. series-given ts room false (length u.tokens) [] u barred us k there (record { ends = ends_by _ (term_tokens tail ++ after) refl refl; not_comma = refl }) (tokens-within ts barred u there) (λ e. absurd cc) i)
      (λ us t bar i. Gives_taken x after l t sign.Bar (term_tokens tail ++ after) _ bar refl
      (λ there. Gives_bind same x x after after l (term room (behind t)) (λ y. give (list_of us y)) (term_meaning room tail (known t)) _ i
      (λ y k j. term-given tail room (behind t) after y k there (ends_by _ rest refl refl) j)
      (λ y v close j. Gives_ok same (list_of us y) x after v l close j))))))

  pub arguments-given : (args : Arguments) (room : ℕ) (s : State) (rest : List Token) (ts : List Tm) (l : Known) → At (arguments_tokens args ++ rest) s → is_sign sign.Open (first rest) ≡ false
      → arguments_meaning room args (known s) ≡ Some (ts, l) → Gives ts rest l (arguments (below term room) s)
  arguments-given no_arguments room s rest ts l h ends e =
      Gives_by ts rest l _ _ (ap (λ b. if b then inside (below term room) arguments_in s else give [] s) (ap (λ o. is_sign sign.Open o) (next-is rest s h) ∙ ends)) (Gives_ok same [] ts rest s l h e)
  arguments-given (some_arguments us) zero s rest ts l h ends e = absurd cc
  arguments-given (some_arguments us) (suc room) s rest ts l h ends e =
      let after = token.Sign sign.Close ∷ rest in
      let m = made (terms_meaning room us (known s)) (λ us. limited_arguments us) ts l e in
      let (past, is) = not-nothing (nat_lt ARITY_LIMIT (length m.value)) (λ k. Some (m.value, k)) m.between ts l m.rest in
      let few : terms_count us ≤ ARITY_LIMIT = (let n = counted room us (known s) m.value m.between m.first in grind (arith, nat_tests, past, n)) in
      Gives_by ts rest l _ _ (ap (λ b. if b then inside (below term (suc room)) arguments_in s else give [] s) (ap (λ o. is_sign sign.Open o) (next-is _ s h)))
      (Gives_so same m.value ts rest m.between l _
      (between-gives m.value false sign.Open sign.Close (several true (term room)) (terms_tokens us ++ after) rest m.between s refl refl (At_so _ _ s h (closing (terms_tokens us) rest (token.Sign sign.Open) (token.Sign sign.Close ∷ [])))
      (λ there. series-given us room true (length (opened false s).tokens) [] (opened false s) after m.value m.between there (record { ends = ends_by _ rest refl refl; not_comma = refl }) (tokens-within us after (opened false s) there) (λ e. omega (arith, few)) m.first))
      is)

  series-given : (ts : Terms) (room : ℕ) (are_arguments : Bool) (n : ℕ) (before : List Tm) (s : State) (rest : List Token) (us : List Tm) (l : Known) → At (terms_tokens ts ++ rest) s → EndsTerms rest
      → terms_count ts ≤ n → (are_arguments ≡ true → length before + terms_count ts ≤ ARITY_LIMIT) → terms_meaning room ts (known s) ≡ Some (us, l)
      → Gives (before ++ us) rest l (series (λ before. one_more are_arguments (length before) (term room)) n before s)
  series-given ts room are_arguments zero before s rest us l h ends le few e = absurd (let some = some-count ts in omega (arith, some, le))
  series-given (one_term t) room are_arguments (suc n) before s rest us l h ends le few e =
      Gives_bind same (before ++ us) us rest rest l (one_more are_arguments (length before) (term room) s) _ (term_meaning room t (known s)) _ e
      (λ x k i. Gives_note x rest k s (are_arguments && nat_le ARITY_LIMIT (length before)) _ (kind.Limit count.Arity) (λ u. term room) (still-few are_arguments (length before) 1 (omega arith) few)
      (term-given t room s rest x k h ends.ends i))
      (λ x v there i. Gives_not_taken (before ++ us) rest l v sign.Comma rest _ there ends.not_comma (Gives_ok (λ us. before ++ us) (x ∷ []) us rest v l there i))
  series-given (more_terms t ts) room are_arguments (suc n) before s rest us l h ends le few e =
      let next = token.Sign sign.Comma ∷ (terms_tokens ts ++ rest) in
      Gives_bind same (before ++ us) us next rest l (one_more are_arguments (length before) (term room) s) _ (term_meaning room t (known s)) _ e
      (λ x k i. Gives_note x next k s (are_arguments && nat_le ARITY_LIMIT (length before)) _ (kind.Limit count.Arity) (λ u. term room) (still-few are_arguments (length before) (suc (terms_count ts)) (omega arith) few)
      (term-given t room s next x k (At_so _ (term_tokens t ++ next) s h (append_assoc (term_tokens t) (token.Sign sign.Comma ∷ terms_tokens ts) rest)) (ends_by _ (terms_tokens ts ++ rest) refl refl) i))
      (λ x v there i. Gives_taken (before ++ us) rest l v sign.Comma (terms_tokens ts ++ rest) _ there refl
      (λ at.
      let m = made (terms_meaning room ts (known v)) (λ us k. Some (x ∷ us, k)) us l i in
      Gives_so (λ ys. before ++ ys) (x ∷ m.value) us rest m.between l _
      (subst (λ ys. Gives ys rest m.between (series (λ before. one_more are_arguments (length before) (term room)) n (before ++ x ∷ []) (behind v))) (append_assoc before (x ∷ []) m.value)
      (series-given ts room are_arguments n (before ++ x ∷ []) (behind v) rest m.value m.between at ends (omega (arith, le)) (λ e. (let f = few e in omega (arith, f, length-append before (x ∷ [])))) m.first))
      m.rest))
