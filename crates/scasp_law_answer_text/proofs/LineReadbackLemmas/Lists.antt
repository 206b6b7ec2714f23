-- Lists of terms, atoms and literals are read back.
use Rattle.std.proofs.Common.{◌≡◌, ℕ, Bool, true, false, cond, not, ◌==◌, nat_lt, List, [], ◌∷◌, ◌++◌, length, codes, Option, None, Some, refl, sym, ap, ◌∙◌, append_assoc}
use Rattle.std.specs.Prelude.{if◌then◌else◌, option_map}
use Rattle.std.specs.Str.{bytes_eq}
use Rattle.std.proofs.lemmas.Bool.{and_parts, false≢true}
use Rattle.scasp_num.specs.Arithmetic.{◌>>=◌}
use Rattle.scasp_syntax.specs.Tm.{Tm, Tms, nil, cons, items, listed}
use Rattle.scasp_syntax.specs.declared.atom.Atom.{Atom}
use Rattle.scasp_syntax.specs.declared.atom.Lit.{Lit}
use Rattle.scasp_cert.specs.Text.Names.{text_at, name_text, is_plain}
use Rattle.scasp_cert.specs.Text.Terms.{term_text, terms_text, called_text, list_text, minus_text, atom_text, lit_text}
use Rattle.scasp_reader_terms.specs.Names.{place_in}
use Rattle.scasp_answers_terms.specs.Tokens.Tokens.{Token, word, quoted, variable, digits, fraction, minus, bracket, tokens_in}
use Rattle.scasp_answers_terms.specs.Tokens.Readers.{Parsed, made, until, past, past_text}
use Rattle.scasp_answers_terms.specs.Tokens.Names.{name_of, name_at}
use Rattle.scasp_answers_terms.specs.Tokens.Terms.{Bracket, wants, ends, terms_at, term_at, only_one, listed_until, elements_at, list_at, arguments_at, atom_of, lit_of, unsigned_atom_at, atom_at, lit_at}
use Rattle.scasp_law_program_text.specs.Readback.Endings.{ends_name}
use Rattle.scasp_law_answer_text.specs.LineReadback.Endings.{ends_part}
use Rattle.scasp_law_answer_text.specs.LineReadback.Writable.{IsTable}
use Rattle.scasp_law_answer_text.proofs.LineReadbackLemmas.Fronts.{AtEnds, at-ends, ends-name, paren-read, bracket-read, unbracket-read, close-read, minus-read}
use Rattle.scasp_law_answer_text.proofs.LineReadbackLemmas.Words.{name_token, name-read, named-word, plain-other}
use Rattle.scasp_law_answer_text.proofs.LineReadbackLemmas.Table.{text-utf8, text-place, turned}
use Rattle.scasp_law_answer_text.proofs.LineReadbackLemmas.Terms.{begins_term, listed-items, Fine, Fines, fine-first, rest-ends, term-front, first-read, term-read, terms-read}

-- ---- a name

pub name_at-read : (place : List ℕ → ℕ) (text : List ℕ) (ts : List Token) → name_at place (name_token text ∷ ts) ≡ Some (place text, ts)
name_at-read place text ts = by (is_plain text) refl
  where
    by : (plain : Bool) → is_plain text ≡ plain → name_at place (cond plain (word text) (quoted text) ∷ ts) ≡ Some (place text, ts)
    by true e = ap (option_map (λ text. (place text, ts))) (named-word text (plain-other text e))
    by false e = refl

-- ---- one term

-- no comma stands there
abbrev pub comma_free : List ℕ → Bool
comma_free [] = true
comma_free (b ∷ bytes) = not (b == 44)

pub top-ends : (place : List ℕ → ℕ) (before : List Tm) (t : Tm) (rest : List ℕ) → ends_part rest ≡ true → comma_free rest ≡ true → ends place [] before (Some t) (tokens_in rest) ≡ Some (before ++ t ∷ [], tokens_in rest)
unfolding tokens_in
top-ends place before t =
    at-ends (λ r. comma_free r ≡ true → ends place [] before (Some t) (tokens_in r) ≡ Some (before ++ t ∷ [], tokens_in r)) (record {
      none = λ e. refl;
      blank = λ r e. refl;
      close = λ r e. refl;
      star = λ r e. refl;
      plus = λ r e. refl;
      comma = λ r e. absurd (false≢true e);
      minus = λ r e. refl;
      point = λ r e. refl;
      semicolon = λ r e. refl;
      unbracket = λ r e. refl;
      bar = λ r e. refl;
    })

-- ---- lists

elements-step : (place : List ℕ → ℕ) (ts : List Token) → begins_term ts ≡ true → elements_at place ts ≡ listed_until (codes "]") place ts
elements-step place (word w ∷ ts) e = refl
elements-step place (quoted w ∷ ts) e = refl
elements-step place (bracket ∷ ts) e = refl
elements-step place (variable x ∷ ts) e = refl
elements-step place (digits n ∷ ts) e = refl
elements-step place (fraction n d ∷ ts) e = refl
elements-step place (minus ∷ ts) e = refl
elements-step place _ e = absurd (false≢true e)

module _ (names : List (List ℕ)) (table : IsTable names) where
  abbrev place : List ℕ → ℕ
  place = place_in names

  pub term_at-read : (t : Tm) (rest : List ℕ) → Fine names table t → ends_part rest ≡ true → comma_free rest ≡ true → term_at place (tokens_in (term_text names t ++ rest)) ≡ Some (t, tokens_in rest)
  unfolding terms_at
  term_at-read t rest g end free = ap (λ o. o >>= (λ r. only_one r.0 r.1)) (term-read names table t g rest end [] [] ∙ top-ends place [] t rest end free)

  -- terms up to a byte that ends them
  several-read : (t : Tm) (ts : Tms) (rest : List ℕ) → Fines names table (cons t ts) → ends_part rest ≡ true → comma_free rest ≡ true
      → terms_at place (tokens_in (terms_text names true (cons t ts) ++ rest)) ≡ Some (t ∷ items ts, tokens_in rest)
  unfolding terms_at
  several-read t ts rest g end free =
      let parts = fine-first names table t ts g in
      first-read names table t ts (term-read names table t parts.0) (terms-read names table ts parts.1) [] [] rest (λ all. Some (all, tokens_in rest)) refl end
      (λ b u. top-ends place b u rest end free)

  several-front : (t : Tm) (ts : Tms) (rest : List ℕ) → Fines names table (cons t ts) → ends_part rest ≡ true → begins_term (tokens_in (terms_text names true (cons t ts) ++ rest)) ≡ true
  several-front t ts rest g end =
      ap (λ bytes. begins_term (tokens_in bytes)) (append_assoc (term_text names t) (terms_text names false ts) rest)
      ∙ term-front names table t (terms_text names false ts ++ rest) (fine-first names table t ts g).0 (rest-ends names table ts rest end)

  -- terms and the text behind them
  until-read : (text : List ℕ) (t : Tm) (ts : Tms) (rest behind : List ℕ) → Fines names table (cons t ts) → ends_part rest ≡ true → comma_free rest ≡ true → past_text text (tokens_in rest) ≡ Some (tokens_in behind)
      → listed_until text place (tokens_in (terms_text names true (cons t ts) ++ rest)) ≡ Some (cons t ts, tokens_in behind)
  until-read text t ts rest behind g end free p =
      ap (λ o. made listed (o >>= (λ r. option_map (λ rest. (r.0, rest)) (past_text text r.1)))) (several-read t ts rest g end free)
      ∙ ap (λ o. made listed (option_map (λ rest. (t ∷ items ts, rest)) o)) p ∙ ap (λ us. Some (cons t us, tokens_in behind)) (listed-items ts)

  past-unbracket : (rest : List ℕ) → past_text (codes "]") (tokens_in (93 ∷ rest)) ≡ Some (tokens_in rest)
  unfolding past_text tokens_in
  past-unbracket rest = refl

  pub past-close : (rest : List ℕ) → past_text (codes ")") (tokens_in (41 ∷ rest)) ≡ Some (tokens_in rest)
  unfolding past_text tokens_in
  past-close rest = refl

  past-bracket : (rest : List ℕ) → past_text (codes "[") (tokens_in (91 ∷ rest)) ≡ Some (tokens_in rest)
  unfolding past_text tokens_in
  past-bracket rest = refl

  elements-read : (ts : Tms) (rest : List ℕ) → Fines names table ts → elements_at place (tokens_in (terms_text names true ts ++ (93 ∷ rest))) ≡ Some (ts, tokens_in rest)
  elements-read nil rest g = ap (elements_at place) (unbracket-read rest)
  elements-read (cons t ts) rest g =
      elements-step place (tokens_in (terms_text names true (cons t ts) ++ (93 ∷ rest))) (several-front t ts (93 ∷ rest) g refl)
      ∙ until-read (codes "]") t ts (93 ∷ rest) rest g refl refl (past-unbracket rest)

  pub list-read : (ts : Tms) (rest : List ℕ) → Fines names table ts → list_at place (tokens_in (list_text names ts ++ rest)) ≡ Some (ts, tokens_in rest)
  unfolding list_text
  list-read ts rest g =
      let text = terms_text names true ts in
      ap (λ bytes. list_at place (tokens_in (91 ∷ bytes))) (append_assoc text (codes "]") rest)
      ∙ ap (λ o. o >>= elements_at place) (past-bracket (text ++ (93 ∷ rest)))
      ∙ elements-read ts rest g

  -- ---- atoms

  no-arguments : (rest : List ℕ) → ends_part rest ≡ true → arguments_at place (tokens_in rest) ≡ Some (nil, tokens_in rest)
  unfolding tokens_in
  no-arguments =
      at-ends (λ r. arguments_at place (tokens_in r) ≡ Some (nil, tokens_in r)) (record {
        none = refl;
        blank = λ r. refl;
        close = λ r. refl;
        star = λ r. refl;
        plus = λ r. refl;
        comma = λ r. refl;
        minus = λ r. refl;
        point = λ r. refl;
        semicolon = λ r. refl;
        unbracket = λ r. refl;
        bar = λ r. refl;
      })

  -- the arguments' text behind the name
  abbrev pub arguments_text : Tms → List ℕ
  arguments_text nil = []
  arguments_text (cons t ts) = codes "(" ++ terms_text names true (cons t ts) ++ codes ")"

  arguments-read : (ts : Tms) (rest : List ℕ) → Fines names table ts → ends_part rest ≡ true → arguments_at place (tokens_in (arguments_text ts ++ rest)) ≡ Some (ts, tokens_in rest)
  arguments-read nil rest g end = no-arguments rest end
  arguments-read (cons t ts) rest g end =
      let text = terms_text names true (cons t ts) in
      ap (λ bytes. arguments_at place (tokens_in (40 ∷ bytes))) (append_assoc text (codes ")") rest)
      ∙ ap (arguments_at place) (paren-read (text ++ (41 ∷ rest)))
      ∙ until-read (codes ")") t ts (41 ∷ rest) rest g refl refl (past-close rest)

  arguments-end : (ts : Tms) (rest : List ℕ) → ends_part rest ≡ true → ends_name (arguments_text ts ++ rest) ≡ true
  arguments-end nil rest end = ends-name rest end
  arguments-end (cons t ts) rest end = refl

  called-group : (f : ℕ) (ts : Tms) (rest : List ℕ) → called_text names f ts (terms_text names true ts) ++ rest ≡ name_text names f ++ (arguments_text ts ++ rest)
  called-group f nil rest = refl
  called-group f (cons t ts) rest = grouped (name_text names f) (codes "(") (terms_text names true (cons t ts)) (codes ")") rest
    where
      grouped : (n p a c rest : List ℕ) → (((n ++ p) ++ a) ++ c) ++ rest ≡ n ++ (((p ++ a) ++ c) ++ rest)
      grouped n p a c rest = simp append_assoc

  pub called-tokens : (f : ℕ) (ts : Tms) (rest : List ℕ) → nat_lt f (length names) ≡ true → ends_part rest ≡ true
      → tokens_in (called_text names f ts (terms_text names true ts) ++ rest) ≡ name_token (text_at names f) ∷ tokens_in (arguments_text ts ++ rest)
  called-tokens f ts rest h end = ap tokens_in (called-group f ts rest) ∙ name-read (text_at names f) (arguments_text ts ++ rest) (text-utf8 names table f h) (arguments-end ts rest end)

  unsigned-read : (negative : Bool) (f : ℕ) (ts : Tms) (rest : List ℕ) → nat_lt f (length names) ≡ true → Fines names table ts → ends_part rest ≡ true
      → unsigned_atom_at place negative (name_token (text_at names f) ∷ tokens_in (arguments_text ts ++ rest)) ≡ Some (atom_of negative f ts, tokens_in rest)
  unsigned-read negative f ts rest h g end =
      ap (λ o. o >>= (λ n. made (atom_of negative n.0) (arguments_at place n.1))) (name_at-read place (text_at names f) (tokens_in (arguments_text ts ++ rest)))
      ∙ ap (λ o. made (atom_of negative (place (text_at names f))) o) (arguments-read ts rest g end)
      ∙ ap (λ n. Some (atom_of negative n ts, tokens_in rest)) (text-place names table f h)

  -- without a minus sign
  plain-step : (text : List ℕ) (ts : List Token) → atom_at place (name_token text ∷ ts) ≡ unsigned_atom_at place false (name_token text ∷ ts)
  plain-step text ts = by (is_plain text)
    where
      by : (plain : Bool) → atom_at place (cond plain (word text) (quoted text) ∷ ts) ≡ unsigned_atom_at place false (cond plain (word text) (quoted text) ∷ ts)
      by true = refl
      by false = refl

  abbrev pub FineAtom : Atom → Type 0
  FineAtom a = (nat_lt a.name (length names) ≡ true) × Fines names table a.args

  pub atom-read : (a : Atom) (rest : List ℕ) → FineAtom a → ends_part rest ≡ true → atom_at place (tokens_in (atom_text names a ++ rest)) ≡ Some (a, tokens_in rest)
  unfolding atom_text
  atom-read a rest g end = by a.minus
    where
      text : List ℕ
      text = called_text names a.name a.args (terms_text names true a.args)

      by : (m : Bool) → atom_at place (tokens_in ((minus_text m ++ text) ++ rest)) ≡ Some (atom_of m a.name a.args, tokens_in rest)
      by true =
          ap (atom_at place) (minus-read (text ++ rest)) ∙ ap (unsigned_atom_at place true) (called-tokens a.name a.args rest g.0 end)
          ∙ unsigned-read true a.name a.args rest g.0 g.1 end
      by false =
          ap (atom_at place) (called-tokens a.name a.args rest g.0 end) ∙ plain-step (text_at names a.name) (tokens_in (arguments_text a.args ++ rest))
          ∙ unsigned-read false a.name a.args rest g.0 g.1 end

  -- ---- literals

  not-there : (text : List ℕ) (ts : List Token) → past_text (codes "not ") (name_token text ∷ ts) ≡ None
  unfolding past_text tokens_in
  not-there text ts = by (is_plain text) refl
    where
      by : (plain : Bool) → is_plain text ≡ plain → past_text (codes "not ") (cond plain (word text) (quoted text) ∷ ts) ≡ None
      by true e = let other : bytes_eq (codes "not") text ≡ false = turned text (codes "not") (plain-other text e) in rw other refl
      by false e = refl

  minus-first : (ts : List Token) → past_text (codes "not ") (minus ∷ ts) ≡ None
  unfolding past_text tokens_in
  minus-first ts = refl

  past-not : (rest : List ℕ) → past_text (codes "not ") (tokens_in (110 ∷ 111 ∷ 116 ∷ 32 ∷ rest)) ≡ Some (tokens_in rest)
  unfolding past_text tokens_in
  past-not rest = refl

  no-not : (a : Atom) (rest : List ℕ) → FineAtom a → ends_part rest ≡ true → past_text (codes "not ") (tokens_in (atom_text names a ++ rest)) ≡ None
  unfolding atom_text
  no-not a rest g end = by a.minus
    where
      text : List ℕ
      text = called_text names a.name a.args (terms_text names true a.args)

      by : (m : Bool) → past_text (codes "not ") (tokens_in ((minus_text m ++ text) ++ rest)) ≡ None
      by true = ap (past_text (codes "not ")) (minus-read (text ++ rest)) ∙ minus-first (tokens_in (text ++ rest))
      by false = ap (past_text (codes "not ")) (called-tokens a.name a.args rest g.0 end) ∙ not-there (text_at names a.name) (tokens_in (arguments_text a.args ++ rest))

  abbrev literal_by : List Token → Option (List Token) → Parsed Lit
  literal_by ts o = elim o [ None ↦ made (lit_of true) (atom_at place ts) | Some rest ↦ made (lit_of false) (atom_at place rest) ]

  pub lit-read : (l : Lit) (rest : List ℕ) → FineAtom l.atom → ends_part rest ≡ true → lit_at place (tokens_in (lit_text names l ++ rest)) ≡ Some (l, tokens_in rest)
  unfolding lit_text
  lit-read l rest g end = by l.positive
    where
      text : List ℕ
      text = atom_text names l.atom

      by : (p : Bool) → lit_at place (tokens_in (((if p then [] else codes "not ") ++ text) ++ rest)) ≡ Some (lit_of p l.atom, tokens_in rest)
      by true = ap (literal_by (tokens_in (text ++ rest))) (no-not l.atom rest g end) ∙ ap (made (lit_of true)) (atom-read l.atom rest g end)
      by false = ap (literal_by (tokens_in (110 ∷ 111 ∷ 116 ∷ 32 ∷ (text ++ rest)))) (past-not (text ++ rest)) ∙ ap (made (lit_of false)) (atom-read l.atom rest g end)
