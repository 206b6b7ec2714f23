-- Variables and numbers that are read.
use Rattle.std.proofs.Common.{◌≡◌, ℕ, ◌-◌, Bool, true, false, if◌then◌else◌, List, [], ◌∷◌, ◌++◌, drop, length, Option, None, Some, is_none, Ok, refl, ap, subst, ◌∙◌}
use Rattle.std.specs.Prelude.{nat_le, nat_lt}
use Rattle.scasp_num.specs.Number.{Number}
use Rattle.scasp_num.specs.Arithmetic.{quotient_of}
use Rattle.scasp_num.specs.Linear.{is_zero}
use Rattle.scasp_reader_tokens.specs.declared.sign.Sign.TheVariants as sign
use Rattle.scasp_reader_tokens.specs.declared.token.Token.{Token}
use Rattle.scasp_reader_tokens.specs.declared.token.Token.TheVariants as token
use Rattle.scasp_reader_terms.specs.declared.fault.Count.TheVariants as count
use Rattle.scasp_reader_terms.specs.declared.fault.Kind.TheVariants as kind
use Rattle.scasp_reader_terms.specs.declared.reader.TheConstants.{VARIABLE_LIMIT, NUMBER_LIMIT}
use Rattle.scasp_reader_terms.specs.Names.{known_variable, with_variable, new_variable, variable_at}
use Rattle.scasp_reader_terms.proofs.VariableLemmas.{few-not-many}
use Rattle.scasp_reader_terms.specs.Steps.{State, ◌>>=◌, then_read, give, get, stop_at, behind, place_of, token_of, taken}
use Rattle.scasp_reader_terms.specs.Constants.{number_of, number, is_zero_number, quotient_at, divided, number_term, constant}
use Rattle.scasp_syntax.specs.Tm.{Tm}
use Rattle.scasp_law_program_text.specs.Grammar.Known.{Known, new_number, numbered}
use Rattle.scasp_law_program_text.specs.Grammar.Trees.{a_number, a_fraction}
use Rattle.scasp_law_program_text.specs.Grammar.Spelling.{bare, minus_if, term_tokens}
use Rattle.scasp_law_program_text.specs.Grammar.Terms.{term_meaning}
use Rattle.scasp_law_program_text.proofs.GrammarLemmas.Steps.{known, next-token, Post, Post_ok, Post_give, Post_err, Post_from, Post_then, Post_taken, Post_note, Spelled}

-- ---- variables

pub record IsNumbered (text : List ℕ) (s : State) (x : ℕ) (t : State) : Type 0 where
  pub tokens : bare s.tokens ≡ bare t.tokens
  pub value : numbered text (known s) ≡ Some (x, known t)

pub new-meant : (text : List ℕ) (k : Known) → nat_le VARIABLE_LIMIT (length k.variables) ≡ false → new_number text k ≡ Some (length k.variables, record k { variables = k.variables ++ text ∷ [] })
new-meant text k past = ap (λ b. if b then None else Some (length k.variables, record k { variables = k.variables ++ text ∷ [] })) past

pub numbered-meant : (text : List ℕ) (k : Known) (o : Option ℕ) → known_variable text k.variables ≡ o → numbered text k ≡ elim o [ None ↦ new_number text k | Some x ↦ Some (x, k) ]
numbered-meant text k o e = ap (λ o. elim o [ None ↦ new_number text k | Some x ↦ Some (x, k) ]) e

new-numbered : (text : List ℕ) (s : State) → known_variable text s.variables ≡ None → nat_le VARIABLE_LIMIT (length s.variables) ≡ false
    → IsNumbered text s (length s.variables) (with_variable text s)
new-numbered text s e past = record { tokens = refl; value = numbered-meant text (known s) None e ∙ new-meant text (known s) past }

pub variable_holds : (at : ℕ) (text : List ℕ) (s : State) → Post (IsNumbered text s) s (variable_at at text s)
variable_holds at text s = by (known_variable text s.variables) refl
  where
    by : (o : Option ℕ) → known_variable text s.variables ≡ o → Post (IsNumbered text s) s (elim o [ None ↦ new_variable at text s | Some x ↦ Ok (x, s) ])
    by (Some x) e = Post_give (IsNumbered text s) s x (λ fine. record { tokens = refl; value = numbered-meant text (known s) (Some x) e })
    by None e =
        Post_note (IsNumbered text s) s (nat_le VARIABLE_LIMIT (length s.variables)) at (kind.Limit count.Variables) _
        (λ t f same. new t same (nat_lt (length s.variables) NUMBER_LIMIT) refl)
      where
        new : (t : State) → (t.fault ≡ None → (s ≡ t) × (nat_le VARIABLE_LIMIT (length s.variables) ≡ false)) → (b : Bool) → nat_lt (length s.variables) NUMBER_LIMIT ≡ b
            → Post (IsNumbered text s) t (if b then Ok (length s.variables, with_variable text t) else Ok (NUMBER_LIMIT - 1, t))
        new t same true few =
            Post_ok (IsNumbered text s) t (with_variable text t) (length s.variables) (λ f. f)
            (λ fine.
            let (is, past) = same fine in
            subst (λ t. IsNumbered text s (length s.variables) (with_variable text t)) is (new-numbered text s e past))
        new t same false many = Post_give (IsNumbered text s) t (NUMBER_LIMIT - 1) (λ fine. absurd (few-not-many (length s.variables) (same fine).1 many))

-- ---- numbers

pub record IsNumber (s : State) (p : Option Number) (t : State) : Type 0 where
  pub value : Number
  pub is : p ≡ Some value
  pub tokens : bare s.tokens ≡ token.Number p ∷ bare t.tokens
  pub same : known s ≡ known t

pub some-number : {A : Type 0} (p : Option A) → is_none p ≡ false → (q : A) × (p ≡ Some q)
some-number None h = absurd cc
some-number (Some q) h = (q, refl)

pub number_holds : (s : State) → Post (IsNumber s) s (number s)
number_holds s = by (place_of s.tokens) (token_of s.tokens) refl
  where
    by : (at : ℕ) (o : Option Token) → token_of s.tokens ≡ o → Post (IsNumber s) s (number_of at o s)
    by at (Some (token.Number q)) e =
        Post_from (IsNumber s) s (behind s) _ (λ f. f)
        (Post_note (IsNumber s) (behind s) (is_none q) at kind.NumberTooLarge _
        (λ t f same. Post_give (IsNumber s) t q
        (λ fine.
        let (is, past) = same fine in
        let (value, some) = some-number q past in
        subst (λ t. IsNumber s q t) is (record { value = value; is = some; tokens = next-token s.tokens (token.Number q) e; same = refl }))))
    by at o e = Post_err (IsNumber s) s _

-- a divisor is read, and the quotient made
record IsQuotient (p : Option Number) (s : State) (r : Option Number) (t : State) : Type 0 where
  divisor : Option Number
  a : Number
  b : Number
  c : Number
  is_a : p ≡ Some a
  is_b : divisor ≡ Some b
  is_c : r ≡ Some c
  defined : is_zero b.num ≡ false
  made : quotient_of a b ≡ Some c
  tokens : bare s.tokens ≡ token.Number divisor ∷ bare t.tokens
  same : known s ≡ known t

quotient_holds : (at : ℕ) (p q : Option Number) (s t : State) → is_zero_number q ≡ false → (t.fault ≡ None → (a : Number) × (p ≡ Some a)) → (t.fault ≡ None → IsNumber s q t) → Post (IsQuotient p s) t (quotient_at at p q t)
quotient_holds at None q s t nz h k = Post_give (IsQuotient None s) t None (λ fine. let (a, e) = h fine in absurd cc)
quotient_holds at (Some a) None s t nz h k = Post_give (IsQuotient (Some a) s) t None (λ fine. let e = (k fine).is in absurd cc)
quotient_holds at (Some a) (Some b) s t nz h k =
    Post_note (IsQuotient (Some a) s) t (is_none (quotient_of a b)) at kind.NumberTooLarge _
    (λ u f same. Post_give (IsQuotient (Some a) s) u (quotient_of a b)
    (λ fine.
    let (is, past) = same fine in
    let (c, some) = some-number (quotient_of a b) past in
    let n = k (f fine) in
    subst (λ u. IsQuotient (Some a) s (quotient_of a b) u) is
    (record { divisor = Some b; a = a; b = b; c = c; is_a = refl; is_b = refl; is_c = some; defined = nz; made = some; tokens = n.tokens; same = n.same })))

divided_holds : (at : ℕ) (p : Option Number) (s : State) → (s.fault ≡ None → (a : Number) × (p ≡ Some a)) → Post (IsQuotient p s) s (divided at p s)
divided_holds at p s h =
    Post_then (IsNumber s) (IsQuotient p s) s _ _ (number_holds s) (λ q t f n. by q t f n (is_zero_number q) refl)
  where
    by : (q : Option Number) (t : State) → (t.fault ≡ None → s.fault ≡ None) → (t.fault ≡ None → IsNumber s q t) → (b : Bool) → is_zero_number q ≡ b
        → Post (IsQuotient p s) t ((if b then stop_at (place_of s.tokens) kind.Expected else quotient_at at p q) t)
    by q t f n true e = Post_err (IsQuotient p s) t _
    by q t f n false e = quotient_holds at p q s t e (λ fine. h (f fine)) n

-- the term is a number with this sign
number-meant : (room : ℕ) (minus : Bool) (p : Option Number) (a : Number) (k : Known) → p ≡ Some a → term_meaning room (a_number minus p) k ≡ Some (number_term minus p, k)
number-meant room true p a k e = rw e refl
number-meant room false p a k e = rw e refl

fraction-meant : (room : ℕ) (minus : Bool) (p q r : Option Number) (a b c : Number) (k : Known) → p ≡ Some a → q ≡ Some b → r ≡ Some c → is_zero b.num ≡ false → quotient_of a b ≡ Some c
    → term_meaning room (a_fraction minus p q) k ≡ Some (number_term minus r, k)
fraction-meant room true p q r a b c k e f g nz made = rw (e, f, g) (rw (nz, made) refl)
fraction-meant room false p q r a b c k e f g nz made = rw (e, f, g) (rw (nz, made) refl)

pub append-minus : (minus : Bool) (k : Token) (ts us : List Token) → minus_if minus ++ k ∷ (ts ++ us) ≡ (minus_if minus ++ k ∷ ts) ++ us
append-minus true k ts us = refl
append-minus false k ts us = refl

module _ (room : ℕ) (s u : State) (minus : Bool) (front : bare s.tokens ≡ minus_if minus ++ bare u.tokens) (same : known s ≡ known u) where
  abbrev Q : Tm → State → Type 0
  Q x t = Spelled term_tokens (term_meaning room) s x t

  whole : (p : Option Number) (t : State) → IsNumber u p t → Q (number_term minus p) t
  whole p t n = record {
    tree = a_number minus p;
    tokens = front ∙ ap (λ ts. minus_if minus ++ ts) n.tokens ∙ append-minus minus (token.Number p) [] (bare t.tokens);
    value = number-meant room minus p n.value (known s) n.is ∙ ap (λ k. Some (number_term minus p, k)) (same ∙ n.same);
  }

  part : (p r : Option Number) (t v : State) → IsNumber u p t → bare t.tokens ≡ token.Sign sign.Over ∷ bare (drop 1 t.tokens) → IsQuotient p (behind t) r v → Q (number_term minus r) v
  part p r t v n over d = record {
    tree = a_fraction minus p d.divisor;
    tokens = front ∙ ap (λ ts. minus_if minus ++ ts) (n.tokens ∙ ap (λ ts. token.Number p ∷ ts) (over ∙ ap (λ ts. token.Sign sign.Over ∷ ts) d.tokens))
        ∙ append-minus minus (token.Number p) (token.Sign sign.Over ∷ token.Number d.divisor ∷ []) (bare v.tokens);
    value = fraction-meant room minus p d.divisor r d.a d.b d.c (known s) d.is_a d.is_b d.is_c d.defined d.made ∙ ap (λ k. Some (number_term minus r, k)) (same ∙ n.same ∙ d.same);
  }

  unsigned_holds : Post Q u (then_read (number u) (λ p. get (λ s. place_of s.tokens) >>= (λ at. taken sign.Over >>= (λ over. (if over then divided at p else give p) >>= (λ q. give (number_term minus q))))))
  unsigned_holds =
      Post_then (IsNumber u) Q u _ _ (number_holds u)
      (λ p t f n. Post_taken Q t sign.Over _
      (λ over. Post_then (IsQuotient p (behind t)) Q (behind t) _ _ (divided_holds (place_of t.tokens) p (behind t) (λ fine. let n = n fine in (n.value, n.is)))
      (λ r v g d. Post_give Q v (number_term minus r) (λ fine. part p r t v (n (g fine)) over (d fine))))
      (Post_give Q t (number_term minus p) (λ fine. whole p t (n fine))))

pub constant_holds : (room : ℕ) (s : State) → Post (Spelled term_tokens (term_meaning room) s) s (constant s)
constant_holds room s =
    Post_taken (Spelled term_tokens (term_meaning room) s) s sign.Minus _
    (λ minus. unsigned_holds room s (behind s) true minus refl)
    (unsigned_holds room s s false refl refl)
