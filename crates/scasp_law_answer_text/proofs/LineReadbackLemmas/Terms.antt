-- Terms are read back, on each level of brackets.
use Rattle.std.proofs.Common.{◌≡◌, ℕ, zero, suc, ◌+◌, Bool, true, false, cond, not, ◌&&◌, ◌==◌, nat_lt, List, [], ◌∷◌, ◌++◌, length, codes, ℤ, pos, negsuc, Option, None, Some, refl, sym, ap, subst, ◌∙◌, arith, append_assoc, append-nil}
use Rattle.std.specs.Prelude.{if◌then◌else◌, option_map}
use Rattle.std.specs.Str.{bytes_eq}
use Rattle.std.proofs.lemmas.Bool.{and_parts, false≢true}
use Rattle.std.proofs.lemmas.Bool.Decides.{nat_tests}
use borrow.Author.Tests.{eqb-true}
use Rattle.scasp_syntax.specs.Tm.{Tm, Tms, var, num, app, nil, cons, items, listed}
use Rattle.scasp_cert.specs.Text.Names.{text_at, name_text, constant_text, is_plain}
use Rattle.scasp_cert.specs.Text.Terms.{var_text, number_text, is_pair, called_text, app_text, rest_text, term_text, tail_text, terms_text, pair_text}
use Rattle.scasp_reader_terms.specs.Names.{place_in}
use Rattle.scasp_reader_terms.specs.Terms.{list_of}
use Rattle.scasp_answers_terms.specs.Tokens.Tokens.{Token, word, quoted, variable, digits, fraction, minus, plus, star, comma, bar, paren, close, bracket, unbracket, sign, bad, tokens_in}
use Rattle.scasp_answers_terms.specs.Tokens.Readers.{Parsed}
use Rattle.scasp_answers_terms.specs.Tokens.Names.{name_of}
use Rattle.scasp_answers_terms.specs.Tokens.Bounds.{is_place, term_fits, terms_fit}
use Rattle.scasp_answers_terms.specs.Tokens.Terms.{Bracket, call, elements, tail, wants, ends, is_list_call, is_list, called}
use Rattle.scasp_law_program_text.specs.Readback.Endings.{ends_name}
use Rattle.scasp_law_answer_text.specs.LineReadback.Endings.{ends_part}
use Rattle.scasp_law_answer_text.specs.LineReadback.Writable.{IsTable, is_named, are_named}
use Rattle.scasp_law_answer_text.proofs.LineReadbackLemmas.Fronts.{ends-name, ends-digits, comma-read, bar-read, paren-read, bracket-read, unbracket-read, close-read}
use Rattle.scasp_law_answer_text.proofs.LineReadbackLemmas.Words.{name_token, name-read, named-word, plain-other}
use Rattle.scasp_law_answer_text.proofs.LineReadbackLemmas.Numerals.{variable-read}
use Rattle.scasp_law_answer_text.proofs.LineReadbackLemmas.Leaves.{IsTerm, size_token, number_tokens, parts_text, place-below, variable-term, number-read, by-number, number-term, name-term, constant-term}
use Rattle.scasp_law_answer_text.proofs.LineReadbackLemmas.Table.{text-utf8, text-place}

-- ---- single steps

-- no rest of a list is read here
abbrev pub is_level : List Bracket → Bool
is_level [] = true
is_level (call f around ∷ opens) = true
is_level (elements around ∷ opens) = true
is_level (tail es around ∷ opens) = false

comma-step : (place : List ℕ → ℕ) (opens : List Bracket) (before : List Tm) (t : Tm) (ts : List Token) → is_level opens ≡ true → ends place opens before (Some t) (comma ∷ ts) ≡ wants place opens (before ++ t ∷ []) ts
comma-step place [] before t ts e = refl
comma-step place (call f around ∷ opens) before t ts e = refl
comma-step place (elements around ∷ opens) before t ts e = refl
comma-step place (tail es around ∷ opens) before t ts e = absurd (false≢true e)

-- the next token is the first of a name or a list
abbrev pub begins_name : List Token → Bool
begins_name (word w ∷ ts) = true
begins_name (quoted w ∷ ts) = true
begins_name (bracket ∷ ts) = true
begins_name _ = false

-- the next token is the first of a term
abbrev pub begins_term : List Token → Bool
begins_term (word w ∷ ts) = true
begins_term (quoted w ∷ ts) = true
begins_term (bracket ∷ ts) = true
begins_term (variable x ∷ ts) = true
begins_term (digits n ∷ ts) = true
begins_term (fraction n d ∷ ts) = true
begins_term (minus ∷ ts) = true
begins_term _ = false

name-begins : (ts : List Token) → begins_name ts ≡ true → begins_term ts ≡ true
name-begins (word w ∷ ts) e = refl
name-begins (quoted w ∷ ts) e = refl
name-begins (bracket ∷ ts) e = refl
name-begins _ e = absurd (false≢true e)

bracket-step : (place : List ℕ → ℕ) (opens : List Bracket) (before : List Tm) (ts : List Token) → begins_term ts ≡ true → wants place opens before (bracket ∷ ts) ≡ wants place (elements before ∷ opens) [] ts
bracket-step place opens before (word w ∷ ts) e = refl
bracket-step place opens before (quoted w ∷ ts) e = refl
bracket-step place opens before (bracket ∷ ts) e = refl
bracket-step place opens before (variable x ∷ ts) e = refl
bracket-step place opens before (digits n ∷ ts) e = refl
bracket-step place opens before (fraction n d ∷ ts) e = refl
bracket-step place opens before (minus ∷ ts) e = refl
bracket-step place opens before _ e = absurd (false≢true e)

call-step : (place : List ℕ → ℕ) (opens : List Bracket) (before : List Tm) (text : List ℕ) (ts : List Token)
    → wants place opens before (name_token text ∷ paren ∷ ts) ≡ wants place (call (place text) before ∷ opens) [] ts
call-step place opens before text ts = by (is_plain text) refl
  where
    by : (plain : Bool) → is_plain text ≡ plain → wants place opens before (cond plain (word text) (quoted text) ∷ paren ∷ ts) ≡ wants place (call (place text) before ∷ opens) [] ts
    by true e = ap (λ o. elim o [ None ↦ None | Some t ↦ wants place (call (place t) before ∷ opens) [] ts ]) (named-word text (plain-other text e))
    by false e = refl

pub token-begins : (text : List ℕ) (ts : List Token) → begins_name (name_token text ∷ ts) ≡ true
token-begins text ts = by (is_plain text)
  where
    by : (plain : Bool) → begins_name (cond plain (word text) (quoted text) ∷ ts) ≡ true
    by true = refl
    by false = refl

number-begins : (z : ℤ) (k : ℕ) (t : Bool) (ts : List Token) → begins_term (number_tokens z k t ++ ts) ≡ true
number-begins (pos n) k true ts = refl
number-begins (pos n) k false ts = refl
number-begins (negsuc n) k t ts = refl

-- ---- lists

pub listed-items : (ts : Tms) → listed (items ts) ≡ ts
listed-items nil = refl
listed-items (cons t ts) = ap (cons t) (listed-items ts)

list_of-more : (es : List Tm) (h t : Tm) → list_of (es ++ h ∷ []) t ≡ list_of es (app 1 (cons h (cons t nil)))
list_of-more [] h t = refl
list_of-more (e ∷ es) h t = ap (λ r. app 1 (cons e (cons r nil))) (list_of-more es h t)

pair-parts : (f : ℕ) (t : Tm) (ts : Tms) → is_pair f (cons t ts) ≡ true → (f ≡ 1) × (length (items ts) ≡ 1)
pair-parts f t ts e =
    let parts = and_parts (f == 1) (length (items (cons t ts)) == 2) e in
    let two : length (items (cons t ts)) ≡ 2 = eqb-true (length (items (cons t ts))) 2 parts.1 in
    (eqb-true f 1 parts.0, omega (arith, two))

regroup : (n p a c rest : List ℕ) → (((n ++ p) ++ a) ++ c) ++ rest ≡ n ++ (p ++ (a ++ (c ++ rest)))
regroup n p a c rest = simp append_assoc

module _ (names : List (List ℕ)) (table : IsTable names) where
  abbrev place : List ℕ → ℕ
  place = place_in names

  abbrev pub Fine : Tm → Type 0
  Fine t = (is_named (length names) t ≡ true) × (term_fits t ≡ true)

  abbrev pub Fines : Tms → Type 0
  Fines ts = (are_named (length names) ts ≡ true) × (terms_fit ts ≡ true)

  pub fine-args : (f : ℕ) (ts : Tms) → Fine (app f ts) → (nat_lt f (length names) ≡ true) × Fines ts
  fine-args f ts g = let parts = and_parts (nat_lt f (length names)) (are_named (length names) ts) g.0 in (parts.0, (parts.1, g.1))

  pub fine-first : (t : Tm) (ts : Tms) → Fines (cons t ts) → Fine t × Fines ts
  fine-first t ts g =
      let n = and_parts (is_named (length names) t) (are_named (length names) ts) g.0 in
      let f = and_parts (term_fits t) (terms_fit ts) g.1 in ((n.0, f.0), (n.1, f.1))

  -- ---- what stands behind a term

  pub rest-ends : (ts : Tms) (rest : List ℕ) → ends_part rest ≡ true → ends_part (terms_text names false ts ++ rest) ≡ true
  rest-ends nil rest e = e
  rest-ends (cons t ts) rest e = refl

  tail-ends : (t : Tm) (rest : List ℕ) → ends_part rest ≡ true → ends_part (tail_text names t ++ rest) ≡ true
  tail-ends (var x) rest e = refl
  tail-ends (num q) rest e = refl
  tail-ends (app f nil) rest e = by (f == 0)
    where
      by : (t : Bool) → ends_part ((if t then [] else codes "|" ++ name_text names f) ++ rest) ≡ true
      by true = e
      by false = refl
  tail-ends (app f (cons t ts)) rest e = by (is_pair f (cons t ts))
    where
      by : (b : Bool) → ends_part ((if b then codes "," ++ pair_text names true (cons t ts) else codes "|" ++ called_text names f (cons t ts) (terms_text names true (cons t ts))) ++ rest) ≡ true
      by true = refl
      by false = refl

  second-ends : (ts : Tms) (rest : List ℕ) → length (items ts) ≡ 1 → ends_part rest ≡ true → ends_part (pair_text names false ts ++ rest) ≡ true
  second-ends nil rest n e = absurd (omega (arith, n))
  second-ends (cons t nil) rest n e = ap ends_part (append_assoc (tail_text names t) [] rest) ∙ tail-ends t rest e
  second-ends (cons t (cons u us)) rest n e = absurd (omega (arith, n))

  -- ---- the front of a term

  name-front : (f : ℕ) (rest : List ℕ) → nat_lt f (length names) ≡ true → ends_name rest ≡ true → begins_name (tokens_in (name_text names f ++ rest)) ≡ true
  name-front f rest h end = ap begins_name (name-read (text_at names f) rest (text-utf8 names table f h) end) ∙ token-begins (text_at names f) (tokens_in rest)

  pub app-front : (f : ℕ) (ts : Tms) (rest : List ℕ) → Fine (app f ts) → ends_part rest ≡ true → begins_name (tokens_in (term_text names (app f ts) ++ rest)) ≡ true
  app-front f nil rest g end = by (f == 0)
    where
      by : (t : Bool) → begins_name (tokens_in ((if t then codes "[]" else name_text names f) ++ rest)) ≡ true
      by true = ap begins_name (bracket-read (93 ∷ rest))
      by false = name-front f rest (fine-args f nil g).0 (ends-name rest end)
  app-front f (cons t ts) rest g end = by (is_pair f (cons t ts))
    where
      text : List ℕ
      text = terms_text names true (cons t ts)

      elems : List ℕ
      elems = pair_text names true (cons t ts)

      by : (b : Bool) → begins_name (tokens_in ((if b then codes "[" ++ elems ++ codes "]" else called_text names f (cons t ts) text) ++ rest)) ≡ true
      by true = ap begins_name (bracket-read ((elems ++ codes "]") ++ rest))
      by false =
          ap (λ bytes. begins_name (tokens_in bytes)) (regroup (name_text names f) (codes "(") text (codes ")") rest)
          ∙ name-front f (40 ∷ (text ++ (41 ∷ rest))) (fine-args f (cons t ts) g).0 refl

  pub term-front : (t : Tm) (rest : List ℕ) → Fine t → ends_part rest ≡ true → begins_term (tokens_in (term_text names t ++ rest)) ≡ true
  term-front (var x) rest g end = ap begins_term (variable-read x rest (place-below x g.1) (ends-digits rest end))
  term-front (num q) rest g end =
      by-number q (λ text. begins_term (tokens_in (text ++ rest)) ≡ true)
      (λ z k t en ek hn hk ht. ap begins_term (number-read z k t rest hn hk end) ∙ number-begins z k t (tokens_in rest)) g.1
  term-front (app f ts) rest g end = name-begins (tokens_in (term_text names (app f ts) ++ rest)) (app-front f ts rest g end)

  -- ---- what is to hold of each term

  abbrev pub IsRead : Tm → Type 0
  IsRead t = (rest : List ℕ) → ends_part rest ≡ true → IsTerm place (term_text names t) t rest

  -- behind a term come these, up to bytes at which the level ends with them
  abbrev pub IsRest : Tms → Type 0
  IsRest ts =
      (opens : List Bracket) (before : List Tm) (t : Tm) (rest : List ℕ) (f : List Tm → Parsed (List Tm)) → is_level opens ≡ true → ends_part rest ≡ true
      → ((b : List Tm) (u : Tm) → ends place opens b (Some u) (tokens_in rest) ≡ f (b ++ u ∷ []))
      → ends place opens before (Some t) (tokens_in (terms_text names false ts ++ rest)) ≡ f (before ++ t ∷ items ts)

  -- a list ends with this term
  abbrev IsTail : Tm → Type 0
  IsTail t =
      (opens : List Bracket) (around es : List Tm) (h : Tm) (rest : List ℕ)
      → ends place (elements around ∷ opens) es (Some h) (tokens_in (tail_text names t ++ (93 ∷ rest))) ≡ ends place opens around (Some (list_of (es ++ h ∷ []) t)) (tokens_in rest)

  -- behind the first argument of a pair stands the second
  abbrev IsSecond : Tms → Type 0
  IsSecond ts =
      length (items ts) ≡ 1 → (opens : List Bracket) (around es : List Tm) (h : Tm) (rest : List ℕ)
      → ends place (elements around ∷ opens) es (Some h) (tokens_in (pair_text names false ts ++ (93 ∷ rest))) ≡ ends place opens around (Some (list_of es (app 1 (cons h ts)))) (tokens_in rest)

  -- ---- several terms

  pub first-read : (t : Tm) (ts : Tms) → IsRead t → IsRest ts → (opens : List Bracket) (before : List Tm) (rest : List ℕ) (f : List Tm → Parsed (List Tm)) → is_level opens ≡ true → ends_part rest ≡ true
      → ((b : List Tm) (u : Tm) → ends place opens b (Some u) (tokens_in rest) ≡ f (b ++ u ∷ []))
      → wants place opens before (tokens_in (terms_text names true (cons t ts) ++ rest)) ≡ f (before ++ t ∷ items ts)
  first-read t ts here more opens before rest f l end last =
      ap (λ bytes. wants place opens before (tokens_in bytes)) (append_assoc (term_text names t) (terms_text names false ts) rest)
      ∙ here (terms_text names false ts ++ rest) (rest-ends ts rest end) opens before
      ∙ more opens before t rest f l end last

  next-read : (t : Tm) (ts : Tms) → IsRead t → IsRest ts → IsRest (cons t ts)
  next-read t ts here more opens before h rest f l end last =
      ap (ends place opens before (Some h)) (comma-read ((term_text names t ++ terms_text names false ts) ++ rest))
      ∙ comma-step place opens before h (tokens_in ((term_text names t ++ terms_text names false ts) ++ rest)) l
      ∙ first-read t ts here more opens (before ++ h ∷ []) rest f l end last
      ∙ ap f (append_assoc before (h ∷ []) (t ∷ items ts))

  -- ---- names with arguments

  module _ (f : ℕ) (t : Tm) (ts : Tms) (fine : Fine (app f (cons t ts))) (here : IsRead t) (more : IsRest ts) (second : IsSecond ts) where
    named : nat_lt f (length names) ≡ true
    named = (fine-args f (cons t ts) fine).0

    called-app : is_pair f (cons t ts) ≡ false → called f (t ∷ items ts) ≡ Some (app f (cons t ts))
    called-app e = ap (λ us. if is_list_call f (cons t us) then None else Some (app f (cons t us))) (listed-items ts) ∙ rw e refl

    called-read : is_pair f (cons t ts) ≡ false → (rest : List ℕ) → IsTerm place (called_text names f (cons t ts) (terms_text names true (cons t ts))) (app f (cons t ts)) rest
    called-read e rest opens before =
        let args = terms_text names true (cons t ts) in
        let name = text_at names f in
        ap (λ bytes. wants place opens before (tokens_in bytes)) (regroup (name_text names f) (codes "(") args (codes ")") rest)
        ∙ ap (wants place opens before) (name-read name (40 ∷ (args ++ (41 ∷ rest))) (text-utf8 names table f named) refl ∙ ap (λ us. name_token name ∷ us) (paren-read (args ++ (41 ∷ rest))))
        ∙ call-step place opens before name (tokens_in (args ++ (41 ∷ rest)))
        ∙ ap (λ g. wants place (call g before ∷ opens) [] (tokens_in (args ++ (41 ∷ rest)))) (text-place names table f named)
        ∙ first-read t ts here more (call f before ∷ opens) [] (41 ∷ rest) (λ all. ends place opens before (called f all) (tokens_in rest)) refl refl
        (λ b u. ap (ends place (call f before ∷ opens) b (Some u)) (close-read rest))
        ∙ ap (λ o. ends place opens before o (tokens_in rest)) (called-app e)

    elements-read : is_pair f (cons t ts) ≡ true → (opens : List Bracket) (around es : List Tm) (rest : List ℕ)
        → wants place (elements around ∷ opens) es (tokens_in (pair_text names true (cons t ts) ++ (93 ∷ rest))) ≡ ends place opens around (Some (list_of es (app f (cons t ts)))) (tokens_in rest)
    elements-read e opens around es rest =
        let parts = pair-parts f t ts e in
        let behind = pair_text names false ts ++ (93 ∷ rest) in
        ap (λ bytes. wants place (elements around ∷ opens) es (tokens_in bytes)) (append_assoc (term_text names t) (pair_text names false ts) (93 ∷ rest))
        ∙ here behind (second-ends ts (93 ∷ rest) parts.1 refl) (elements around ∷ opens) es
        ∙ second parts.1 opens around es t rest
        ∙ ap (λ g. ends place opens around (Some (list_of es (app g (cons t ts)))) (tokens_in rest)) (sym parts.0)

    list-read : is_pair f (cons t ts) ≡ true → (rest : List ℕ) → IsTerm place (codes "[" ++ pair_text names true (cons t ts) ++ codes "]") (app f (cons t ts)) rest
    list-read e rest opens before =
        let es = pair_text names true (cons t ts) in
        let front : begins_term (tokens_in (es ++ (93 ∷ rest))) ≡ true =
        ap (λ bytes. begins_term (tokens_in bytes)) (append_assoc (term_text names t) (pair_text names false ts) (93 ∷ rest))
        ∙ term-front t (pair_text names false ts ++ (93 ∷ rest)) (fine-first t ts (fine-args f (cons t ts) fine).1).0 (second-ends ts (93 ∷ rest) (pair-parts f t ts e).1 refl) in
        ap (λ bytes. wants place opens before (tokens_in (91 ∷ bytes))) (append_assoc es (codes "]") rest)
        ∙ ap (wants place opens before) (bracket-read (es ++ (93 ∷ rest)))
        ∙ bracket-step place opens before (tokens_in (es ++ (93 ∷ rest))) front
        ∙ elements-read e opens before [] rest

    pub app-read : IsRead (app f (cons t ts))
    app-read rest end = by (is_pair f (cons t ts)) refl
      where
        by : (b : Bool) → is_pair f (cons t ts) ≡ b
            → IsTerm place (if b then codes "[" ++ pair_text names true (cons t ts) ++ codes "]" else called_text names f (cons t ts) (terms_text names true (cons t ts))) (app f (cons t ts)) rest
        by true e = list-read e rest
        by false e = called-read e rest

    pub app-tail : IsTail (app f (cons t ts))
    app-tail opens around es h rest = by (is_pair f (cons t ts)) refl
      where
        by : (b : Bool) → is_pair f (cons t ts) ≡ b
            → ends place (elements around ∷ opens) es (Some h) (tokens_in ((if b then codes "," ++ pair_text names true (cons t ts) else codes "|" ++ called_text names f (cons t ts) (terms_text names true (cons t ts))) ++ (93 ∷ rest)))
            ≡ ends place opens around (Some (list_of (es ++ h ∷ []) (app f (cons t ts)))) (tokens_in rest)
        by true e =
            ap (ends place (elements around ∷ opens) es (Some h)) (comma-read (pair_text names true (cons t ts) ++ (93 ∷ rest)))
            ∙ elements-read e opens around (es ++ h ∷ []) rest
        by false e =
            ap (ends place (elements around ∷ opens) es (Some h)) (bar-read (called_text names f (cons t ts) (terms_text names true (cons t ts)) ++ (93 ∷ rest)))
            ∙ called-read e (93 ∷ rest) (tail (es ++ h ∷ []) around ∷ opens) []
            ∙ ap (ends place (tail (es ++ h ∷ []) around ∷ opens) [] (Some (app f (cons t ts)))) (unbracket-read rest)
            ∙ rw e refl

  -- ---- the end of a list

  -- behind a bar
  barred : (t : Tm) (text : List ℕ) → ((rest : List ℕ) → IsTerm place text t (93 ∷ rest)) → is_list t ≡ false → (opens : List Bracket) (around es : List Tm) (h : Tm) (rest : List ℕ)
      → ends place (elements around ∷ opens) es (Some h) (tokens_in ((124 ∷ text) ++ (93 ∷ rest))) ≡ ends place opens around (Some (list_of (es ++ h ∷ []) t)) (tokens_in rest)
  barred t text read e opens around es h rest =
      ap (ends place (elements around ∷ opens) es (Some h)) (bar-read (text ++ (93 ∷ rest)))
      ∙ read rest (tail (es ++ h ∷ []) around ∷ opens) []
      ∙ ap (ends place (tail (es ++ h ∷ []) around ∷ opens) [] (Some t)) (unbracket-read rest)
      ∙ rw e refl

  constant-tail : (f : ℕ) → Fine (app f nil) → IsTail (app f nil)
  constant-tail f g opens around es h rest = by (f == 0) refl
    where
      by : (b : Bool) → (f == 0) ≡ b
          → ends place (elements around ∷ opens) es (Some h) (tokens_in ((if b then [] else codes "|" ++ name_text names f) ++ (93 ∷ rest)))
          ≡ ends place opens around (Some (list_of (es ++ h ∷ []) (app f nil))) (tokens_in rest)
      by true e =
          ap (ends place (elements around ∷ opens) es (Some h)) (unbracket-read rest)
          ∙ ap (λ g. ends place opens around (Some (list_of (es ++ h ∷ []) (app g nil))) (tokens_in rest)) (sym (eqb-true f 0 e))
      by false e = barred (app f nil) (name_text names f) (λ r. name-term names table f (93 ∷ r) (fine-args f nil g).0 e refl) e opens around es h rest

  -- ---- all terms

  mutual
    pub term-read : (t : Tm) → Fine t → IsRead t
    term-read (var x) g = λ rest end. variable-term place x rest g.1 end
    term-read (num q) g = λ rest end. number-term place q rest g.1 end
    term-read (app f nil) g = λ rest end. constant-term names table f rest (fine-args f nil g).0 end
    term-read (app f (cons t ts)) g =
        let parts = fine-first t ts (fine-args f (cons t ts) g).1 in app-read f t ts g (term-read t parts.0) (terms-read ts parts.1) (second-read ts parts.1)

    tail-read : (t : Tm) → Fine t → IsTail t
    tail-read (var x) g = barred (var x) (var_text x) (λ r. variable-term place x (93 ∷ r) g.1 refl) refl
    tail-read (num q) g = barred (num q) (number_text q) (λ r. number-term place q (93 ∷ r) g.1 refl) refl
    tail-read (app f nil) g = constant-tail f g
    tail-read (app f (cons t ts)) g =
        let parts = fine-first t ts (fine-args f (cons t ts) g).1 in app-tail f t ts g (term-read t parts.0) (terms-read ts parts.1) (second-read ts parts.1)

    pub terms-read : (ts : Tms) → Fines ts → IsRest ts
    terms-read nil g = λ opens before t rest f l end last. last before t
    terms-read (cons t ts) g = let parts = fine-first t ts g in next-read t ts (term-read t parts.0) (terms-read ts parts.1)

    second-read : (ts : Tms) → Fines ts → IsSecond ts
    second-read nil g = λ n opens around es h rest. absurd (omega (arith, n))
    second-read (cons t nil) g =
        λ n opens around es h rest.
        ap (λ bytes. ends place (elements around ∷ opens) es (Some h) (tokens_in bytes)) (append_assoc (tail_text names t) [] (93 ∷ rest))
        ∙ tail-read t (fine-first t nil g).0 opens around es h rest
        ∙ ap (λ u. ends place opens around (Some u) (tokens_in rest)) (list_of-more es h t)
    second-read (cons t (cons u us)) g = λ n opens around es h rest. absurd (omega (arith, n))
