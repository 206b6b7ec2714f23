-- The names of a sample stand in the table with the texts of its line, and there the sample has the same text.
use Rattle.std.specs.Prelude.{◌≡◌, ℕ, suc, ◌<◌, ◌≤◌, nat_le, nat_lt, Bool, true, false, ◌&&◌, ◌==◌, if◌then◌else◌, ℤ, pos, negsuc, List, [], ◌∷◌, ◌++◌, codes, drop, length, ⊤}
use Rattle.std.proofs.Common.{◌∙◌, ap, append_assoc, arith, refl, subst, sym}
use Rattle.std.proofs.lemmas.Bool.{and_from, and_parts}
use Rattle.std.proofs.lemmas.Bool.Decides.{nat_tests}
use Rattle.scasp_answers.specs.Files.Texts.{with_names_of, with_token, with_tokens}
use Rattle.scasp_answers_terms.specs.Tokens.Bounds.{term_fits, terms_fit}
use Rattle.scasp_answers_terms.specs.Tokens.Lines.{sample_line, words_of}
use Rattle.scasp_answers_terms.specs.Tokens.Tokens.{Token, word, quoted, bracket, sign, tokens_in}
use Rattle.scasp_cert.specs.Text.Names.{constant_text, is_plain, name_text, quoted_text, text_at}
use Rattle.scasp_cert.specs.Text.Separators.{separator_text}
use Rattle.scasp_cert.specs.Text.Terms.{list_text, term_text, terms_text}
use Rattle.scasp_law_answer_text.specs.LineReadback.Endings.{ends_part}
use Rattle.scasp_law_answer_text.specs.LineReadback.Writable.{IsTable, are_named, is_named}
use Rattle.scasp_law_answer_text.proofs.LineReadbackLemmas.Fronts.{comma-read, ends-name}
use Rattle.scasp_law_answer_text.proofs.LineReadbackLemmas.Leaves.{by-number, number-read, number_tokens, size_token}
use Rattle.scasp_law_answer_text.proofs.LineReadbackLemmas.Table.{text-place, text-utf8}
use Rattle.scasp_law_answer_text.proofs.LineReadbackLemmas.Words.{name-read, name_token}
use Rattle.scasp_name.specs.Texts.{has_text}
use Rattle.scasp_reader_terms.specs.Names.{place_in}
use Rattle.scasp_syntax.specs.Tm.{Tm, Tms, var, num, app, nil, cons}
use Rattle.scasp_num.proofs.Numbers.{lt_ltb}
use Rattle.scasp_law_tables.specs.Moved.{all_renamed, are_values, is_value, moving, renamed}
use Rattle.scasp_law_tables.specs.Tables.{Agree}
use Rattle.scasp_law_tables.proofs.Places.{grown-has, placed-below, placed-text, put-has, tokens-grow}

-- each name of the values has its text in the table
abbrev pub ValueIn : List (List ℕ) → List (List ℕ) → Tm → Type 0
ValueIn written table (var x) = ⊤
ValueIn written table (num q) = ⊤
ValueIn written table (app f ts) = has_text table (text_at written f) ≡ true

abbrev pub ValuesIn : List (List ℕ) → List (List ℕ) → Tms → Type 0
ValuesIn written table nil = ⊤
ValuesIn written table (cons t ts) = ValueIn written table t × ValuesIn written table ts

-- ---- the tokens of values

token-has : (names : List (List ℕ)) (text : List ℕ) → has_text (with_token names (name_token text)) text ≡ true
token-has names text = by (is_plain text)
  where
    by : (b : Bool) → has_text (with_token names (if b then word text else quoted text)) text ≡ true
    by true = put-has names text
    by false = put-has names text

size-skipped : (names : List (List ℕ)) (n k : ℕ) (whole : Bool) → with_token names (size_token n k whole) ≡ names
size-skipped names n k true = refl
size-skipped names n k false = refl

number-skipped : (names : List (List ℕ)) (z : ℤ) (k : ℕ) (whole : Bool) (ts : List Token) → with_tokens names (number_tokens z k whole ++ ts) ≡ with_tokens names ts
number-skipped names (pos n) k whole ts = ap (λ (z : List (List ℕ)). with_tokens z ts) (size-skipped names n k whole)
number-skipped names (negsuc n) k whole ts = ap (λ (z : List (List ℕ)). with_tokens z ts) (size-skipped names (suc n) k whole)

module _ (written : List (List ℕ)) (table : IsTable written) (count : ℕ) (some : 0 < count) where
  -- a name of a value is not that of the empty list
  value-parts : (f : ℕ) → (nat_le count f && nat_lt f (length written)) ≡ true → ((f == 0) ≡ false) × (nat_lt f (length written) ≡ true)
  value-parts f e = let h = and_parts (nat_le count f) (nat_lt f (length written)) e in (grind (arith, nat_tests, h.0, some), h.1)

  constant-name : (names : List (List ℕ)) (f : ℕ) → (f == 0) ≡ false → constant_text names f ≡ name_text names f
  constant-name names f e = ap (λ (b : Bool). if b then codes "[]" else name_text names f) e

  -- what stands behind values: others, up to `]`
  values-end : (ts : Tms) (rest : List ℕ) → ends_part (terms_text written false ts ++ (93 ∷ rest)) ≡ true
  values-end nil rest = refl
  values-end (cons t ts) rest = refl

  first-tokens : (names : List (List ℕ)) (t : Tm) (rest : List ℕ) → is_value count (length written) t ≡ true → term_fits t ≡ true → ends_part rest ≡ true
      → (table : List (List ℕ)) × (with_tokens names (tokens_in (term_text written t ++ rest)) ≡ with_tokens table (tokens_in rest)) × ValueIn written table t
  first-tokens names (var x) rest v f e = absurd (cc v)
  first-tokens names (num q) rest v f e = (
    names,
    by-number q (λ text. with_tokens names (tokens_in (text ++ rest)) ≡ with_tokens names (tokens_in rest))
        (λ z k t en ek hn hk ht. ap (with_tokens names) (number-read z k t rest hn hk e) ∙ number-skipped names z k t (tokens_in rest)) f,
    tt,
  )
  first-tokens names (app f nil) rest v g e =
      let h = value-parts f v in (
        with_token names (name_token (text_at written f)),
        ap (λ (text : List ℕ). with_tokens names (tokens_in (text ++ rest))) (constant-name written f h.0)
            ∙ ap (with_tokens names) (name-read (text_at written f) rest (text-utf8 written table f h.1) (ends-name rest e)),
        token-has names (text_at written f),
      )
  first-tokens names (app f (cons t ts)) rest v g e = absurd (cc v)

  value-grows : (a b : List (List ℕ)) (t : Tm) → ((text : List ℕ) → has_text a text ≡ true → has_text b text ≡ true) → ValueIn written a t → ValueIn written b t
  value-grows a b (var x) h k = tt
  value-grows a b (num q) h k = tt
  value-grows a b (app f ts) h k = h (text_at written f) k

  values-tokens : (names : List (List ℕ)) (first : Bool) (ts : Tms) (rest : List ℕ) → are_values count (length written) ts ≡ true → terms_fit ts ≡ true
      → ValuesIn written (with_tokens names (tokens_in (terms_text written first ts ++ (93 ∷ rest)))) ts
  values-tokens names first nil rest v f = tt
  values-tokens names first (cons t ts) rest v f =
      let vs = and_parts (is_value count (length written) t) (are_values count (length written) ts) v in
      let fs = and_parts (term_fits t) (terms_fit ts) f in
      let behind : List ℕ = terms_text written false ts ++ (93 ∷ rest) in
      let one = first-tokens names t behind vs.0 fs.0 (values-end ts rest) in
      let same : with_tokens names (tokens_in (terms_text written first (cons t ts) ++ (93 ∷ rest))) ≡ with_tokens one.0 (tokens_in behind) =
      separated first names ∙ one.1 in
      subst (λ (z : List (List ℕ)). ValuesIn written z (cons t ts)) (sym same) (
        value-grows one.0 (with_tokens one.0 (tokens_in behind)) t (λ text k. grown-has one.0 (with_tokens one.0 (tokens_in behind)) (tokens-grow one.0 (tokens_in behind)) text k) one.2,
        values-tokens one.0 false ts rest vs.1 fs.1,
      )
    where
      separated : (first : Bool) (names : List (List ℕ))
          → with_tokens names (tokens_in (terms_text written first (cons t ts) ++ (93 ∷ rest))) ≡ with_tokens names (tokens_in (term_text written t ++ (terms_text written false ts ++ (93 ∷ rest))))
      separated true names = ap (λ (z : List ℕ). with_tokens names (tokens_in z)) (append_assoc (term_text written t) (terms_text written false ts) (93 ∷ rest))
      separated false names =
          ap (λ (z : List ℕ). with_tokens names (tokens_in (44 ∷ z))) (append_assoc (term_text written t) (terms_text written false ts) (93 ∷ rest))
          ∙ ap (with_tokens names) (comma-read (term_text written t ++ (terms_text written false ts ++ (93 ∷ rest))))

  sample-front : (text : List ℕ) → tokens_in (codes "sample " ++ codes "[" ++ text ++ codes "]") ≡ word (codes "sample") ∷ sign 32 ∷ bracket ∷ tokens_in (text ++ (93 ∷ []))
  unfolding tokens_in
  sample-front text = refl

  -- the names of a sample are among those of its line
  pub sample-has : (names : List (List ℕ)) (ts : Tms) → are_values count (length written) ts ≡ true → terms_fit ts ≡ true → ValuesIn written (with_names_of names (words_of written (sample_line ts))) ts
  unfolding words_of list_text
  sample-has names ts v f =
      let text : List ℕ = terms_text written true ts in
      subst (λ (z : List (List ℕ)). ValuesIn written z ts) (sym (tokens text)) (values-tokens (names) true ts [] v f)
    where
      tokens : (text : List ℕ) → with_names_of names (codes "sample " ++ codes "[" ++ text ++ codes "]") ≡ with_tokens names (tokens_in (text ++ (93 ∷ [])))
      tokens text = ap (λ (ts : List Token). with_tokens names (drop 1 ts)) (sample-front text)

  -- ---- the text of a sample

  module _ (other : List (List ℕ)) (same : Agree count written other) where
    -- no name of a value is among the first
    pub place-behind : (f : ℕ) → (nat_le count f && nat_lt f (length written)) ≡ true → has_text other (text_at written f) ≡ true → count ≤ place_in other (text_at written f)
    place-behind f e h = by (nat_le count (place_in other (text_at written f))) refl
      where
        g : ℕ
        g = place_in other (text_at written f)

        parts : (nat_le count f ≡ true) × (nat_lt f (length written) ≡ true)
        parts = and_parts (nat_le count f) (nat_lt f (length written)) e

        by : (b : Bool) → nat_le count (place_in other (text_at written f)) ≡ b → count ≤ place_in other (text_at written f)
        by true k = grind (arith, nat_tests, k)
        by false k =
            let below : g < count = grind (arith, nat_tests, k) in
            let within : nat_lt g (length written) ≡ true = grind (arith, nat_tests, below, parts.0, parts.1) in
            let text : text_at written g ≡ text_at written f = same g below ∙ placed-text other (text_at written f) h in
            let one : g ≡ f = sym (text-place written table g within) ∙ ap (place_in written) text ∙ text-place written table f parts.1 in
            absurd (grind (arith, nat_tests, one, below, parts.0))

    zero-not : (n : ℕ) → count ≤ n → (n == 0) ≡ false
    zero-not n h = grind (arith, nat_tests, h, some)

    value-text : (t : Tm) → is_value count (length written) t ≡ true → ValueIn written other t → term_text written t ≡ term_text other (renamed (moving written other) t)
    value-text (var x) v h = refl
    value-text (num q) v h = refl
    value-text (app f nil) v h =
        constant-name written f (value-parts f v).0 ∙ ap quoted_text (sym (placed-text other (text_at written f) h))
        ∙ sym (constant-name other (place_in other (text_at written f)) (zero-not (place_in other (text_at written f)) (place-behind f v h)))
    value-text (app f (cons t ts)) v h = absurd (cc v)

    values-text : (first : Bool) (ts : Tms) → are_values count (length written) ts ≡ true → ValuesIn written other ts → terms_text written first ts ≡ terms_text other first (all_renamed (moving written other) ts)
    values-text first nil v h = refl
    values-text first (cons t ts) v h =
        let vs = and_parts (is_value count (length written) t) (are_values count (length written) ts) v in
        λ i. separator_text first (codes ",") ++ value-text t vs.0 h.0 i ++ values-text false ts vs.1 h.1 i

    pub sample-text : (ts : Tms) → are_values count (length written) ts ≡ true → ValuesIn written other ts → words_of written (sample_line ts) ≡ words_of other (sample_line (all_renamed (moving written other) ts))
    unfolding words_of list_text
    sample-text ts v h = λ i. codes "sample " ++ (codes "[" ++ values-text true ts v h i ++ codes "]")

    value-named : (t : Tm) → is_value count (length written) t ≡ true → ValueIn written other t → is_named (length other) (renamed (moving written other) t) ≡ true
    value-named (var x) v h = refl
    value-named (num q) v h = refl
    value-named (app f nil) v h = and_from (nat_lt (place_in other (text_at written f)) (length other)) true (lt_ltb (placed-below other (text_at written f) h)) refl
    value-named (app f (cons t ts)) v h = absurd (cc v)

    pub sample-named : (ts : Tms) → are_values count (length written) ts ≡ true → ValuesIn written other ts → are_named (length other) (all_renamed (moving written other) ts) ≡ true
    sample-named nil v h = refl
    sample-named (cons t ts) v h =
        let vs = and_parts (is_value count (length written) t) (are_values count (length written) ts) v in
        and_from (is_named (length other) (renamed (moving written other) t)) (are_named (length other) (all_renamed (moving written other) ts)) (value-named t vs.0 h.0) (sample-named ts vs.1 h.1)

-- values have names of the whole table
value-own : (count total : ℕ) (t : Tm) → is_value count total t ≡ true → is_named total t ≡ true
value-own count total (var x) v = refl
value-own count total (num q) v = refl
value-own count total (app f nil) v = and_from (nat_lt f total) true (and_parts (nat_le count f) (nat_lt f total) v).1 refl
value-own count total (app f (cons t ts)) v = absurd (cc v)

pub values-own : (count total : ℕ) (ts : Tms) → are_values count total ts ≡ true → are_named total ts ≡ true
values-own count total nil v = refl
values-own count total (cons t ts) v =
    let vs = and_parts (is_value count total t) (are_values count total ts) v in
    and_from (is_named total t) (are_named total ts) (value-own count total t vs.0) (values-own count total ts vs.1)

-- what is renamed fits as what was there
mutual
  renamed-fits : (h : ℕ → ℕ) (t : Tm) → term_fits (renamed h t) ≡ term_fits t
  renamed-fits h (var x) = refl
  renamed-fits h (num q) = refl
  renamed-fits h (app f ts) = all-renamed-fit h ts

  pub all-renamed-fit : (h : ℕ → ℕ) (ts : Tms) → terms_fit (all_renamed h ts) ≡ terms_fit ts
  all-renamed-fit h nil = refl
  all-renamed-fit h (cons t ts) = λ i. renamed-fits h t i && all-renamed-fit h ts i
