-- Numbers that are read as terms lie within M.
use Rattle.std.proofs.Common.{◌≡◌, ℕ, Bool, true, false, if◌then◌else◌, Option, None, Some, is_none, Result, refl, ◌∙◌}
use Rattle.scasp_num.specs.Number.{Number}
use Rattle.scasp_num.specs.Arithmetic.{quotient_of, negation_of}
use Rattle.scasp_syntax.specs.Tm.{Tm, num}
use Rattle.scasp_reader_tokens.specs.declared.sign.Sign.TheVariants as sign
use Rattle.scasp_reader_tokens.specs.declared.token.Token.{Token}
use Rattle.scasp_reader_tokens.specs.declared.token.Token.TheVariants as token
use Rattle.scasp_reader_terms.specs.declared.fault.Fault.{Fault}
use Rattle.scasp_reader_terms.specs.declared.fault.Kind.TheVariants as kind
use Rattle.scasp_reader_terms.specs.Constants.{noted_number, number_of, number, is_zero_number, quotient_at, divided, number_term, constant}
use Rattle.scasp_reader_terms.specs.Steps.{State, ◌>>=◌, then_read, give, get, stop_at, behind, place_of, token_of, taken}
use Rattle.scasp_print_program.specs.Terms.{Style}
use Rattle.scasp_law_program_text.specs.CompoundReadback.Fitting.{number_fits}
use Rattle.scasp_law_program_text.specs.TermFitting.Readers.{IsSmall, known, IsReader}
use Rattle.scasp_law_program_text.proofs.TermFittingLemmas.Ranges.{quotient-small, negation-small}
use Rattle.scasp_law_program_text.proofs.TermFittingLemmas.Steps.{Follows, follows_behind, reader_behind, Post, Post_give, Post_err, Post_from, Post_map, Post_then, IsNext, next_is, Post_taken, Post_note}

-- there is a number, and it lies within M
abbrev pub IsNumber : Option Number → Type 0
IsNumber None = ⊥
IsNumber (Some q) = number_fits q ≡ true

-- nothing more is known
abbrev pub IsConstant : Style → Option Number → Style → Type 0
IsConstant old q k = (old ≡ k) × IsNumber q

constant_later : (old : Style) (t : State) (r : Result (Option Number × State) Fault) → (t.fault ≡ None → old ≡ known t) → Post (IsConstant (known t)) t r → Post (IsConstant old) t r
constant_later old t r same p = Post_map (IsConstant (known t)) (IsConstant old) t r p (λ q u f fine c. (same (f.fault fine) ∙ c.0, c.1))

a-number : (q : Option Number) → IsSmall q → is_none q ≡ false → IsNumber q
a-number None h e = cc
a-number (Some q) h e = h

noted_number_holds : (at : ℕ) (q : Option Number) (s : State) → IsReader s → IsSmall q → Post (IsConstant (known s)) s (noted_number at q s)
noted_number_holds at q s r h =
    Post_note (IsConstant (known s)) s r (is_none q) at kind.NumberTooLarge _
    (λ t f same some. Post_give (IsConstant (known s)) t q f.reader (λ fine. (same, a-number q h (some fine))))

pub number_holds : (s : State) → IsReader s → Post (IsConstant (known s)) s (number s)
number_holds s r = by (place_of s.tokens) (token_of s.tokens) (next_is s r)
  where
    by : (at : ℕ) (o : Option Token) → IsNext o → Post (IsConstant (known s)) s (number_of at o s)
    by at (Some (token.Number q)) h = Post_from (IsConstant (known s)) s (behind s) _ (follows_behind s r) (noted_number_holds at q (behind s) (reader_behind s r) h)
    by at o h = Post_err (IsConstant (known s)) s _

quotient_at_holds : (at : ℕ) (p q : Option Number) (s : State) → IsReader s → (s.fault ≡ None → IsNumber p) → (s.fault ≡ None → IsNumber q)
    → Post (IsConstant (known s)) s (quotient_at at p q s)
quotient_at_holds at None q s r h k = Post_give (IsConstant (known s)) s None r (λ fine. absurd (h fine))
quotient_at_holds at (Some p) None s r h k = Post_give (IsConstant (known s)) s None r (λ fine. absurd (k fine))
quotient_at_holds at (Some p) (Some q) s r h k = noted_number_holds at (quotient_of p q) s r (quotient-small p q)

divided_holds : (at : ℕ) (p : Option Number) (s : State) → IsReader s → (s.fault ≡ None → IsNumber p) → Post (IsConstant (known s)) s (divided at p s)
divided_holds at p s r h =
    Post_then (IsConstant (known s)) (IsConstant (known s)) s _ _ (number_holds s r) (λ q t f c. by (is_zero_number q) q t f c)
  where
    by : (b : Bool) (q : Option Number) (t : State) → Follows s t → (t.fault ≡ None → IsConstant (known s) q (known t))
        → Post (IsConstant (known s)) t ((if b then stop_at (place_of s.tokens) kind.Expected else quotient_at at p q) t)
    by true q t f c = Post_err (IsConstant (known s)) t _
    by false q t f c =
        constant_later (known s) t _ (λ fine. (c fine).0) (quotient_at_holds at p q t f.reader (λ fine. h (f.fault fine)) (λ fine. (c fine).1))

-- a term that is a number within M
abbrev pub IsNumberTerm : Style → Tm → Style → Type 0
IsNumberTerm old t k = (old ≡ k) × (q : Number) × (t ≡ num q) × (number_fits q ≡ true)

number_term-is : (old : Style) (minus : Bool) (q : Option Number) (k : Style) → IsConstant old q k → IsNumberTerm old (number_term minus q) k
number_term-is old true (Some q) k c = (c.0, negation_of q, refl, negation-small q c.1)
number_term-is old false (Some q) k c = (c.0, q, refl, c.1)
number_term-is old true None k c = absurd c.1
number_term-is old false None k c = absurd c.1

-- what stands behind a sign, if there is one
unsigned_holds : (minus : Bool) (s : State) → IsReader s
    → Post (IsNumberTerm (known s)) s (then_read (number s) (λ p. get (λ s. place_of s.tokens) >>= (λ at. taken sign.Over >>= (λ over. (if over then divided at p else give p) >>= (λ q. give (number_term minus q))))))
unsigned_holds minus s r =
    Post_then (IsConstant (known s)) (IsNumberTerm (known s)) s _ _ (number_holds s r)
    (λ p t f c. Post_taken (IsNumberTerm (known s)) t f.reader sign.Over _
    (last (behind t) _ (reader_behind t f.reader) (constant_later (known s) (behind t) _ (λ fine. (c fine).0) (divided_holds (place_of t.tokens) p (behind t) (reader_behind t f.reader) (λ fine. (c fine).1))))
    (last t _ f.reader (Post_give (IsConstant (known s)) t p f.reader c)))
  where
    last : (t : State) (r : Result (Option Number × State) Fault) → IsReader t → Post (IsConstant (known s)) t r → Post (IsNumberTerm (known s)) t (then_read r (λ q. give (number_term minus q)))
    last t r rt p =
        Post_then (IsConstant (known s)) (IsNumberTerm (known s)) t r _ p
        (λ q u f c. Post_give (IsNumberTerm (known s)) u (number_term minus q) f.reader (λ fine. number_term-is (known s) minus q (known u) (c fine)))

pub constant_holds : (s : State) → IsReader s → Post (IsNumberTerm (known s)) s (constant s)
constant_holds s r = Post_taken (IsNumberTerm (known s)) s r sign.Minus _ (unsigned_holds true (behind s) (reader_behind s r)) (unsigned_holds false s r)
