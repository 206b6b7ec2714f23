-- Terms are no rows, and no variables before a shape.
use Rattle.std.proofs.Common.{◌≡◌, ℕ, suc, Bool, true, false, cond, not, ◌&&◌, ◌==◌, nat_lt, List, [], ◌∷◌, ◌++◌, length, codes, ℤ, pos, negsuc, Option, None, Some, refl, sym, ap, ◌∙◌, arith}
use Rattle.std.specs.Prelude.{if◌then◌else◌, option_map}
use Rattle.std.proofs.lemmas.Bool.{false≢true}
use Rattle.std.proofs.lemmas.Bool.Decides.{nat_tests}
use Rattle.scasp_num.specs.Arithmetic.{◌>>=◌, signed}
use Rattle.scasp_num.specs.Linear.{Linear}
use Rattle.scasp_num.specs.declared.linear.Op.{Op}
use Rattle.scasp_syntax.specs.Tm.{Tm, Tms, var, num, app, nil, cons}
use Rattle.scasp_syntax.specs.declared.con.Con.{Con}
use Rattle.scasp_cert.specs.Text.Names.{text_at, name_text}
use Rattle.scasp_cert.specs.Text.Terms.{is_pair, called_text, term_text, terms_text, pair_text}
use Rattle.scasp_reader_terms.specs.Names.{place_in}
use Rattle.scasp_answers_terms.specs.Tokens.Tokens.{Token, word, quoted, variable, digits, fraction, minus, bracket, paren, sign, tokens_in}
use Rattle.scasp_answers_terms.specs.Tokens.Readers.{Parsed, made, past_text, only, number_at}
use Rattle.scasp_answers_terms.specs.Tokens.Names.{name_at}
use Rattle.scasp_answers_terms.specs.Tokens.Bounds.{bounded_integer}
use Rattle.scasp_answers_terms.specs.Tokens.Rows.{Sum, sum_at, relation_at, row_of, is_row, row_at}
use Rattle.scasp_answers_terms.specs.Tokens.Constraints.{shape_at, not_shape_at}
use Rattle.scasp_law_answer_text.specs.LineReadback.Endings.{ends_part}
use Rattle.scasp_law_answer_text.specs.LineReadback.Writable.{IsTable, is_shape}
use Rattle.scasp_law_answer_text.proofs.LineReadbackLemmas.Fronts.{AtEnds, at-ends, ends-name, ends-digits, bracket-read, paren-read}
use Rattle.scasp_law_answer_text.proofs.LineReadbackLemmas.Words.{name_token, name-read}
use Rattle.scasp_law_answer_text.proofs.LineReadbackLemmas.Numerals.{variable-read}
use Rattle.scasp_law_answer_text.proofs.LineReadbackLemmas.Leaves.{number_tokens, number-read, by-number, place-below}
use Rattle.scasp_law_answer_text.proofs.LineReadbackLemmas.Table.{text-utf8}
use Rattle.scasp_law_answer_text.proofs.LineReadbackLemmas.Terms.{begins_name, app-front, Fine, fine-args}
use Rattle.scasp_law_answer_text.proofs.LineReadbackLemmas.Lists.{name_at-read, called-tokens}

pub equal-no_relation : (ts : List Token) → relation_at (sign 32 ∷ sign 61 ∷ ts) ≡ None
unfolding past_text tokens_in
equal-no_relation ts = refl

pub differ-no_relation : (ts : List Token) → relation_at (sign 32 ∷ sign 92 ∷ ts) ≡ None
unfolding past_text tokens_in
differ-no_relation ts = refl

-- a sum without a relation behind it
sum-alone : (ts us : List Token) (s : Sum) → sum_at ts ≡ Some (s, us) → relation_at us ≡ None → row_at ts ≡ None
sum-alone ts us s e n =
    ap (λ o. (o >>= (λ s. made (row_of s.0) (relation_at s.1))) >>= (λ q. if is_row q.0 then Some q else None)) e
    ∙ ap (λ o. made (row_of s) o >>= (λ q. if is_row q.0 then Some q else None)) n

no-sum : (ts : List Token) → sum_at ts ≡ None → row_at ts ≡ None
no-sum ts e = ap (λ o. (o >>= (λ s. made (row_of s.0) (relation_at s.1))) >>= (λ q. if is_row q.0 then Some q else None)) e

pub name-no_row : (ts : List Token) → begins_name ts ≡ true → row_at ts ≡ None
name-no_row (word w ∷ ts) e = refl
name-no_row (quoted w ∷ ts) e = refl
name-no_row (bracket ∷ ts) e = refl
name-no_row _ e = absurd (false≢true e)

pub name-no_shape : (place : List ℕ → ℕ) (ts : List Token) → begins_name ts ≡ true → not_shape_at place ts ≡ None
name-no_shape place (word w ∷ ts) e = refl
name-no_shape place (quoted w ∷ ts) e = refl
name-no_shape place (bracket ∷ ts) e = refl
name-no_shape place _ e = absurd (false≢true e)

number-no_shape : (place : List ℕ → ℕ) (z : ℤ) (k : ℕ) (t : Bool) (ts : List Token) → not_shape_at place (number_tokens z k t ++ ts) ≡ None
number-no_shape place (pos n) k true ts = refl
number-no_shape place (pos n) k false ts = refl
number-no_shape place (negsuc n) k t ts = refl

module _ (b : ℕ) (us : List Token) (e : relation_at (sign 32 ∷ sign b ∷ us) ≡ None) where
  abbrev behind : List Token
  behind = sign 32 ∷ sign b ∷ us

  variable-no_row : (x : ℕ) → row_at (variable x ∷ sign 32 ∷ sign b ∷ us) ≡ None
  variable-no_row x = sum-alone (variable x ∷ behind) behind _ refl e

  digits-no_row : (n : ℕ) → row_at (digits n ∷ sign 32 ∷ sign b ∷ us) ≡ None
  digits-no_row n = by (n == 0) refl
    where
      by : (t : Bool) → (n == 0) ≡ t → row_at (digits n ∷ sign 32 ∷ sign b ∷ us) ≡ None
      by true h = sum-alone (digits n ∷ behind) behind ([], pos 0) (rw h refl) e
      by false h = sum-alone (digits n ∷ behind) behind ([], bounded_integer (signed false n)) (rw h refl) e

  minus-no_row : (n : ℕ) → row_at (minus ∷ digits (suc n) ∷ sign 32 ∷ sign b ∷ us) ≡ None
  minus-no_row n = let some : (suc n == 0) ≡ false = grind (arith, nat_tests) in sum-alone (minus ∷ digits (suc n) ∷ behind) behind ([], bounded_integer (signed true (suc n))) (rw some refl) e

  number-no_row : (z : ℤ) (k : ℕ) (t : Bool) → row_at (number_tokens z k t ++ (sign 32 ∷ sign b ∷ us)) ≡ None
  number-no_row (pos n) k true = digits-no_row n
  number-no_row (pos n) k false = refl
  number-no_row (negsuc n) k true = minus-no_row n
  number-no_row (negsuc n) k false = refl

module _ (names : List (List ℕ)) (table : IsTable names) where
  abbrev place : List ℕ → ℕ
  place = place_in names

  -- before a sign that begins no relation of rows
  pub term-no_row : (t : Tm) (b : ℕ) (us : List Token) (rest : List ℕ) → Fine names table t → ends_part rest ≡ true → relation_at (sign 32 ∷ sign b ∷ us) ≡ None → tokens_in rest ≡ sign 32 ∷ sign b ∷ us
      → row_at (tokens_in (term_text names t ++ rest)) ≡ None
  term-no_row (var x) b us rest g end e ts = ap row_at (variable-read x rest (place-below x g.1) (ends-digits rest end) ∙ ap (λ r. variable x ∷ r) ts) ∙ variable-no_row b us e x
  term-no_row (num q) b us rest g end e ts =
      by-number q (λ text. row_at (tokens_in (text ++ rest)) ≡ None)
      (λ z k t en ek hn hk ht. ap row_at (number-read z k t rest hn hk end ∙ ap (λ r. number_tokens z k t ++ r) ts) ∙ number-no_row b us e z k t) g.1
  term-no_row (app f args) b us rest g end e ts = name-no_row (tokens_in (term_text names (app f args) ++ rest)) (app-front names table f args rest g end)

  -- a term that is no variable
  abbrev pub is_variable : Tm → Bool
  is_variable (var x) = true
  is_variable (num q) = false
  is_variable (app f ts) = false

  pub other-no_shape : (t : Tm) (rest : List ℕ) → is_variable t ≡ false → Fine names table t → ends_part rest ≡ true → not_shape_at place (tokens_in (term_text names t ++ rest)) ≡ None
  other-no_shape (var x) rest v g end = absurd (false≢true (sym v))
  other-no_shape (num q) rest v g end =
      by-number q (λ text. not_shape_at place (tokens_in (text ++ rest)) ≡ None)
      (λ z k t en ek hn hk ht. ap (not_shape_at place) (number-read z k t rest hn hk end) ∙ number-no_shape place z k t (tokens_in rest)) g.1
  other-no_shape (app f args) rest v g end = name-no_shape place (tokens_in (term_text names (app f args) ++ rest)) (app-front names table f args rest g end)

  -- ---- what is no shape

  -- a name without a slash behind it
  name-alone : (text : List ℕ) (ts : List Token) → past_text (codes "/") ts ≡ None → shape_at place (name_token text ∷ ts) ≡ None
  name-alone text ts e =
      ap (λ o. o >>= (λ r. past_text (codes "/") r.1 >>= (λ rest. option_map (λ q. ((r.0, q.0), q.1)) (only (λ n. nat_lt 0 n) number_at rest)))) (name_at-read place text ts)
      ∙ ap (λ o. o >>= (λ rest. option_map (λ q. ((place text, q.0), q.1)) (only (λ n. nat_lt 0 n) number_at rest))) e

  no-slash : (rest : List ℕ) → ends_part rest ≡ true → past_text (codes "/") (tokens_in rest) ≡ None
  unfolding past_text tokens_in
  no-slash =
      at-ends (λ r. past_text (codes "/") (tokens_in r) ≡ None) (record {
        none = refl;
        blank = λ r. refl;
        close = λ r. refl;
        star = λ r. refl;
        plus = λ r. refl;
        comma = λ r. refl;
        minus = λ r. refl;
        point = λ r. refl;
        semicolon = λ r. refl;
        unbracket = λ r. refl;
        bar = λ r. refl;
      })

  paren-no_slash : (ts : List Token) → past_text (codes "/") (paren ∷ ts) ≡ None
  unfolding past_text tokens_in
  paren-no_slash ts = refl

  number-other : (z : ℤ) (k : ℕ) (t : Bool) (ts : List Token) → shape_at place (number_tokens z k t ++ ts) ≡ None
  number-other (pos n) k true ts = refl
  number-other (pos n) k false ts = refl
  number-other (negsuc n) k t ts = refl

  pub constant-other : (f : ℕ) (rest : List ℕ) → nat_lt f (length names) ≡ true → ends_part rest ≡ true → shape_at place (tokens_in (term_text names (app f nil) ++ rest)) ≡ None
  constant-other f rest h end = by (f == 0)
    where
      by : (t : Bool) → shape_at place (tokens_in ((if t then codes "[]" else name_text names f) ++ rest)) ≡ None
      by true = ap (shape_at place) (bracket-read (93 ∷ rest))
      by false =
          ap (shape_at place) (name-read (text_at names f) rest (text-utf8 names table f h) (ends-name rest end))
          ∙ name-alone (text_at names f) (tokens_in rest) (no-slash rest end)

  called-other : (f : ℕ) (t : Tm) (ts : Tms) (rest : List ℕ) → nat_lt f (length names) ≡ true → ends_part rest ≡ true
      → shape_at place (tokens_in (term_text names (app f (cons t ts)) ++ rest)) ≡ None
  called-other f t ts rest h end = by (is_pair f (cons t ts))
    where
      args : List ℕ
      args = terms_text names true (cons t ts)

      by : (b : Bool) → shape_at place (tokens_in ((if b then codes "[" ++ pair_text names true (cons t ts) ++ codes "]" else called_text names f (cons t ts) args) ++ rest)) ≡ None
      by true = ap (shape_at place) (bracket-read ((pair_text names true (cons t ts) ++ codes "]") ++ rest))
      by false =
          let behind = (args ++ codes ")") ++ rest in
          ap (shape_at place) (called-tokens names table f (cons t ts) rest h end ∙ ap (λ us. name_token (text_at names f) ∷ us) (paren-read behind))
          ∙ name-alone (text_at names f) (paren ∷ tokens_in behind) (paren-no_slash (tokens_in behind))

  pub other-shape : (x : ℕ) (s : Tm) (rest : List ℕ) → is_shape (var x) s ≡ false → Fine names table s → ends_part rest ≡ true → shape_at place (tokens_in (term_text names s ++ rest)) ≡ None
  other-shape x (var y) rest n g end = ap (shape_at place) (variable-read y rest (place-below y g.1) (ends-digits rest end))
  other-shape x (num q) rest n g end =
      by-number q (λ text. shape_at place (tokens_in (text ++ rest)) ≡ None)
      (λ z k t en ek hn hk ht. ap (shape_at place) (number-read z k t rest hn hk end) ∙ number-other z k t (tokens_in rest)) g.1
  other-shape x (app f nil) rest n g end = absurd (false≢true (sym n))
  other-shape x (app f (cons t ts)) rest n g end = called-other f t ts rest (fine-args names table f (cons t ts) g).0 end
