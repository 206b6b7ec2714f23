-- Texts that stand in a table, and the table with the texts of a line.
use Rattle.std.specs.Prelude.{◌≡◌, ℕ, zero, suc, ◌+◌, ◌<◌, ◌≤◌, Bool, true, false, ◌||◌, if◌then◌else◌, List, [], ◌∷◌, ◌++◌, drop, length}
use Rattle.std.specs.List.{Contains}
use Rattle.std.specs.Str.{bytes_eq}
use Rattle.std.proofs.Common.{◌∙◌, add-one, ap, append-nil, append_assoc, arith, inl, inr, refl, subst, sym}
use Rattle.std.proofs.lemmas.List.{length-append}
use Rattle.std.proofs.lemmas.Slice.Eq.{bytes_eq-Decides}
use Rattle.scasp_answers.specs.Blocks.Files.{indent, is_remark}
use Rattle.scasp_answers.specs.Files.Texts.{with_lines, with_names_of, with_token, with_tokens}
use Rattle.scasp_answers_terms.specs.Tokens.Tokens.{Token, word, quoted, tokens_in}
use Rattle.scasp_cert.specs.Text.Names.{text_at}
use Rattle.scasp_list.proofs.MemberLemmas.{Contains-cases, Contains-none}
use Rattle.scasp_name.specs.Texts.{has_text, with_text}
use Rattle.scasp_reader_terms.specs.Names.{place_in}

-- ---- the place of a text

pub placed-text : (table : List (List ℕ)) (text : List ℕ) → has_text table text ≡ true → text_at table (place_in table text) ≡ text
placed-text [] text e = absurd (cc e)
placed-text (t ∷ table) text e = by (bytes_eq text t) refl e (placed-text table text)
  where
    by : (b : Bool) → bytes_eq text t ≡ b → (b || has_text table text) ≡ true → (has_text table text ≡ true → text_at table (place_in table text) ≡ text)
        → text_at (t ∷ table) (if b then 0 else place_in table text + 1) ≡ text
    by true f g rest = sym ((bytes_eq-Decides text t).0 f)
    by false f g rest = ap (text_at (t ∷ table)) (add-one (place_in table text)) ∙ rest g

pub placed-below : (table : List (List ℕ)) (text : List ℕ) → has_text table text ≡ true → place_in table text < length table
placed-below [] text e = absurd (cc e)
placed-below (t ∷ table) text e = by (bytes_eq text t) e (placed-below table text)
  where
    by : (b : Bool) → (b || has_text table text) ≡ true → (has_text table text ≡ true → place_in table text < length table) → (if b then 0 else place_in table text + 1) < suc (length table)
    by true g rest = omega arith
    by false g rest = let k = rest g in omega (arith, k)

-- ---- more texts

-- the second table has what the first has, at the same places
pub record Grows (names table : List (List ℕ)) : Type 0 where
  pub more : List (List ℕ)
  pub is : table ≡ names ++ more

pub grows-self : (names : List (List ℕ)) → Grows names names
grows-self names = record { more = []; is = sym (append-nil names) }

pub grows-on : (a b c : List (List ℕ)) → Grows a b → Grows b c → Grows a c
grows-on a b c g h = record { more = g.more ++ h.more; is = h.is ∙ ap (λ (z : List (List ℕ)). z ++ h.more) g.is ∙ append_assoc a g.more h.more }

text-grows : (names : List (List ℕ)) (text : List ℕ) → Grows names (with_text names text)
text-grows names text = by (has_text names text)
  where
    by : (b : Bool) → Grows names (if b then names else names ++ text ∷ [])
    by true = grows-self names
    by false = record { more = text ∷ []; is = refl }

token-grows : (names : List (List ℕ)) (t : Token) → Grows names (with_token names t)
token-grows names (word w) = text-grows names w
token-grows names (quoted w) = text-grows names w
token-grows names _ = grows-self names

pub tokens-grow : (names : List (List ℕ)) (ts : List Token) → Grows names (with_tokens names ts)
tokens-grow names [] = grows-self names
tokens-grow names (t ∷ ts) = grows-on names (with_token names t) (with_tokens (with_token names t) ts) (token-grows names t) (tokens-grow (with_token names t) ts)

line-grows : (names : List (List ℕ)) (line : List ℕ) → Grows names (with_names_of names line)
line-grows names line = by (is_remark line)
  where
    by : (b : Bool) → Grows names (if b then names else with_tokens names (drop 1 (tokens_in (drop (indent line) line))))
    by true = grows-self names
    by false = tokens-grow names (drop 1 (tokens_in (drop (indent line) line)))

pub lines-grow : (names : List (List ℕ)) (lines : List (List ℕ)) → Grows names (with_lines names lines)
lines-grow names [] = grows-self names
lines-grow names (line ∷ lines) = grows-on names (with_names_of names line) (with_lines (with_names_of names line) lines) (line-grows names line) (lines-grow (with_names_of names line) lines)

-- ---- what a larger table has

pub grown-length : (names table : List (List ℕ)) → Grows names table → length names ≤ length table
grown-length names table g =
    let k : length table ≡ length names + length g.more = ap length g.is ∙ length-append names g.more in
    omega (arith, k)

pub grown-text : (names table : List (List ℕ)) → Grows names table → (f : ℕ) → f < length names → text_at names f ≡ text_at table f
grown-text names table g f l = by names f l ∙ ap (λ (z : List (List ℕ)). text_at z f) (sym g.is)
  where
    by : (xs : List (List ℕ)) (f : ℕ) → f < length xs → text_at xs f ≡ text_at (xs ++ g.more) f
    by [] f l = absurd (omega (arith, l))
    by (x ∷ xs) zero l = refl
    by (x ∷ xs) (suc f) l = by xs f (omega (arith, l))

has-front : (xs ys : List (List ℕ)) (text : List ℕ) → has_text xs text ≡ true → has_text (xs ++ ys) text ≡ true
has-front [] ys text e = absurd (cc e)
has-front (x ∷ xs) ys text e = by (bytes_eq text x) e (has-front xs ys text)
  where
    by : (b : Bool) → (b || has_text xs text) ≡ true → (has_text xs text ≡ true → has_text (xs ++ ys) text ≡ true) → (b || has_text (xs ++ ys) text) ≡ true
    by true g rest = refl
    by false g rest = rest g

pub grown-has : (names table : List (List ℕ)) → Grows names table → (text : List ℕ) → has_text names text ≡ true → has_text table text ≡ true
grown-has names table g text e = ap (λ (z : List (List ℕ)). has_text z text) g.is ∙ has-front names g.more text e

has-last : (xs : List (List ℕ)) (text : List ℕ) → has_text (xs ++ text ∷ []) text ≡ true
has-last [] text = ap (λ (b : Bool). b || false) ((bytes_eq-Decides text text).1 refl)
has-last (x ∷ xs) text = by (bytes_eq text x) (has-last xs text)
  where
    by : (b : Bool) → has_text (xs ++ text ∷ []) text ≡ true → (b || has_text (xs ++ text ∷ []) text) ≡ true
    by true e = refl
    by false e = e

-- a text that is put there is there
pub put-has : (names : List (List ℕ)) (text : List ℕ) → has_text (with_text names text) text ≡ true
put-has names text = by (has_text names text) refl
  where
    by : (b : Bool) → has_text names text ≡ b → has_text (if b then names else names ++ text ∷ []) text ≡ true
    by true e = e
    by false e = has-last names text

-- the texts of one of the lines are there
pub line-has : (names : List (List ℕ)) (lines : List (List ℕ)) (line text : List ℕ) → Contains lines line
    → ((table : List (List ℕ)) → has_text (with_names_of table line) text ≡ true) → has_text (with_lines names lines) text ≡ true
line-has names [] line text i h = absurd (Contains-none line i)
line-has names (one ∷ lines) line text i h = elim (Contains-cases one lines line i) [
  | inl e ↦
      grown-has (with_names_of names one) (with_lines (with_names_of names one) lines) (lines-grow (with_names_of names one) lines) text
      (subst (λ (l : List ℕ). has_text (with_names_of names l) text ≡ true) (sym e) (h names))
  | inr j ↦ line-has (with_names_of names one) lines line text j h
]
