-- Bytes that are skipped up to the next text.
use Rattle.std.proofs.Common.{◌≡◌, ◌≤◌, ℕ, suc, ◌+◌, ◌-◌, Bool, true, false, ◌||◌, ◌&&◌, ◌==◌, List, [], ◌∷◌, drop, length, Some, refl, ap, ◌∙◌, sym, arith, zero, eq-eqb}
use Rattle.std.specs.Prelude.{if◌then◌else◌}
use Rattle.std.specs.List.{prefix_len, take_while}
use Rattle.std.proofs.Math.Numerals.{one-add}
use Rattle.std.proofs.lemmas.Bool.Decides.{nat_tests}
use Rattle.std.proofs.lemmas.Bool.{eqb-true, false≢true}
use Rattle.std.proofs.lemmas.List.Folds.{length-prefix_len}
use Rattle.scasp_reader_tokens.specs.Bytes.{is_lower, is_digit, is_name_byte}
use Rattle.scasp_answers_terms.specs.Tokens.Tokens.{Token, variable, digits, fraction, bad, Front, front, first_front, front_at, word_front, sign_token, value_of, is_numeral, number_front, variable_front, quoted_front, digits_at, digits_below, tokens_from, tokens_in}
use Rattle.scasp_answers_terms.specs.Tokens.View.{is_text, begins_text, texts_of}
use Rattle.scasp_answers_terms.proofs.TokensLemmas.SignLemmas.{at-signs}
use Rattle.scasp_answers_terms.proofs.TokensLemmas.TokenLemmas.{tokens-front}

-- ---- fronts that are no texts

-- bytes that a number or a variable has behind its first
abbrev is_silent : ℕ → Bool
is_silent b = is_digit b || (b == 47)

-- a front that is no text has only such bytes behind its first
abbrev Skips : List ℕ → Front → Type 0
Skips bytes f = is_text f.token ≡ false → f.more ≤ prefix_len is_silent bytes

skips-if : (c : Bool) (bytes : List ℕ) (f : Front) → Skips bytes f → Skips bytes (if c then f else front bad 0)
skips-if true bytes f h = h
skips-if false bytes f h = λ e. omega arith

digits-silent : (bytes : List ℕ) → prefix_len is_digit bytes ≤ prefix_len is_silent bytes
digits-silent [] = omega arith
digits-silent (b ∷ bytes) = by (is_digit b) (b == 47) (digits-silent bytes)
  where
    by : (d s : Bool) → prefix_len is_digit bytes ≤ prefix_len is_silent bytes → (if d then 1 + prefix_len is_digit bytes else 0) ≤ (if d || s then 1 + prefix_len is_silent bytes else 0)
    by true s h = omega (arith, h)
    by false true h = omega arith
    by false false h = omega arith

-- digits, a slash, and digits
slash-silent : (bytes below : List ℕ) → drop (prefix_len is_digit bytes) bytes ≡ 47 ∷ below → 1 + prefix_len is_digit bytes + prefix_len is_digit below ≤ prefix_len is_silent bytes
slash-silent [] below e = cc
slash-silent (b ∷ bytes) below e = by (is_digit b) refl (slash-silent bytes below)
  where
    k : ℕ
    k = prefix_len is_digit bytes

    by : (d : Bool) → is_digit b ≡ d → (drop k bytes ≡ 47 ∷ below → 1 + k + prefix_len is_digit below ≤ prefix_len is_silent bytes)
        → 1 + prefix_len is_digit (b ∷ bytes) + prefix_len is_digit below ≤ prefix_len is_silent (b ∷ bytes)
    by true q ih =
        let at : drop (1 + k) (b ∷ bytes) ≡ 47 ∷ below = rw q at e in
        let more = ih (ap (λ n. drop n (b ∷ bytes)) (sym (one-add k)) ∙ at) in
        rw q (omega (arith, more))
    by false q ih =
        let at : b ∷ bytes ≡ 47 ∷ below = rw q at e in
        let slash : (b == 47) ≡ true = eq-eqb b 47 (cc) in
        let same : bytes ≡ below = cc in
        rw q rw slash (omega (arith, digits-silent bytes, ap (prefix_len is_digit) same))

below-silent : (bytes rest : List ℕ) → drop (prefix_len is_digit bytes) bytes ≡ rest → 1 ≤ length (digits_below rest)
    → 1 + prefix_len is_digit bytes + length (digits_below rest) ≤ prefix_len is_silent bytes
below-silent bytes [] e h = absurd (omega arith)
below-silent bytes (c ∷ cs) e h = by (c == 47) refl
  where
    by : (s : Bool) → (c == 47) ≡ s → 1 + prefix_len is_digit bytes + length (digits_below (c ∷ cs)) ≤ prefix_len is_silent bytes
    by true q =
        let at : drop (prefix_len is_digit bytes) bytes ≡ 47 ∷ cs = e ∙ ap (λ x. x ∷ cs) (eqb-true c 47 q) in
        rw q (omega (arith, slash-silent bytes cs at, length-prefix_len is_digit cs))
    by false q = let none = rw q at h in absurd (omega (arith, none))

number-skips : (ds es bytes : List ℕ) → length ds ≤ 1 + prefix_len is_digit bytes → (1 ≤ length es → length ds + length es ≤ prefix_len is_silent bytes) → Skips bytes (number_front ds es)
number-skips ds [] bytes h g = skips-if (is_numeral ds) bytes (front (digits (value_of ds)) (length ds - 1)) (λ e. omega (arith, h, digits-silent bytes))
number-skips ds (e ∷ es) bytes h g =
    skips-if (is_numeral ds && is_numeral (e ∷ es)) bytes (front (fraction (value_of ds) (value_of (e ∷ es))) (length ds + length (e ∷ es))) (λ t. g (omega arith))

digit-skips : (b : ℕ) (bytes : List ℕ) → is_digit b ≡ true → Skips bytes (number_front (digits_at (b ∷ bytes)) (digits_below (drop (length (digits_at (b ∷ bytes))) (b ∷ bytes))))
digit-skips b bytes q =
    let ds = digits_at (b ∷ bytes) in
    let k = prefix_len is_digit bytes in
    let more : prefix_len is_digit (b ∷ bytes) ≡ 1 + k = rw q refl in
    let len : length ds ≡ 1 + k = length-prefix_len is_digit (b ∷ bytes) ∙ more in
    let rest : drop k bytes ≡ drop (length ds) (b ∷ bytes) = sym (ap (λ n. drop n (b ∷ bytes)) (len ∙ one-add k)) in
    number-skips ds (digits_below (drop (length ds) (b ∷ bytes))) bytes (omega (arith, len)) (λ h. omega (arith, len, below-silent bytes (drop (length ds) (b ∷ bytes)) rest h))

variable-skips : (bytes : List ℕ) → Skips bytes (variable_front (digits_at bytes))
variable-skips bytes =
    let ds = digits_at bytes in
    skips-if (is_numeral ds) bytes (front (variable (value_of ds)) (length ds)) (λ e. omega (arith, length-prefix_len is_digit bytes, digits-silent bytes))

front-skips : (b : ℕ) (bytes : List ℕ) → begins_text b ≡ false → Skips bytes (front_at b bytes)
front-skips b bytes e = by (is_lower b) (is_digit b) (b == 86) (b == 39) e (digit-skips b bytes)
  where
    ds : List ℕ
    ds = digits_at (b ∷ bytes)

    es : List ℕ
    es = digits_below (drop (length ds) (b ∷ bytes))

    by : (l d v q : Bool) → (l || q) ≡ false → (d ≡ true → Skips bytes (number_front ds es))
        → Skips bytes (if l then word_front (take_while is_name_byte (b ∷ bytes)) else (if d then number_front ds es else (if v then variable_front (digits_at bytes) else (if q then quoted_front bytes else front (sign_token b) 0))))
    by true d v q t h = absurd (false≢true (sym t))
    by false true v q t h = h refl
    by false false true q t h = variable-skips bytes
    by false false false true t h = absurd (false≢true (sym t))
    by false false false false t h = λ e. omega arith

-- ---- no text begins with such a byte

no-text : (b : ℕ) (bytes : List ℕ) → begins_text b ≡ false → is_text (front_at b bytes).token ≡ false
no-text b bytes e = by (is_lower b) (is_digit b) (b == 86) (b == 39) e
  where
    ds : List ℕ
    ds = digits_at (b ∷ bytes)

    es : List ℕ
    es = digits_below (drop (length ds) (b ∷ bytes))

    plain-if : (c : Bool) (f : Front) → is_text f.token ≡ false → is_text (if c then f else front bad 0).token ≡ false
    plain-if true f h = h
    plain-if false f h = refl

    number : (ds es : List ℕ) → is_text (number_front ds es).token ≡ false
    number ds [] = plain-if (is_numeral ds) (front (digits (value_of ds)) (length ds - 1)) refl
    number ds (e ∷ es) = plain-if (is_numeral ds && is_numeral (e ∷ es)) (front (fraction (value_of ds) (value_of (e ∷ es))) (length ds + length (e ∷ es))) refl

    by : (l d v q : Bool) → (l || q) ≡ false
        → is_text (if l then word_front (take_while is_name_byte (b ∷ bytes)) else (if d then number_front ds es else (if v then variable_front (digits_at bytes) else (if q then quoted_front bytes else front (sign_token b) 0)))).token ≡ false
    by true d v q t = absurd (false≢true (sym t))
    by false true v q t = number ds es
    by false false true q t = plain-if (is_numeral (digits_at bytes)) (front (variable (value_of (digits_at bytes))) (length (digits_at bytes))) refl
    by false false false true t = absurd (false≢true (sym t))
    by false false false false t = at-signs (λ b t. is_text t ≡ false) refl refl refl refl refl refl refl refl refl (λ b. refl) b

silent-begins : (b : ℕ) → is_silent b ≡ true → begins_text b ≡ false
silent-begins b e = grind (arith, nat_tests, e)

-- ---- the texts behind bytes that are skipped

texts-plain : (t : Token) (ts : List Token) → is_text t ≡ false → texts_of (t ∷ ts) ≡ texts_of ts
texts-plain t ts e = rw e refl

texts-behind : (bytes : List ℕ) (n : ℕ) → n ≤ prefix_len is_silent bytes → texts_of (tokens_from n bytes) ≡ texts_of (tokens_from 0 bytes)
texts-behind [] n h = refl
texts-behind (b ∷ bytes) zero h = refl
texts-behind (b ∷ bytes) (suc n) h = by (is_silent b) refl (texts-behind bytes)
  where
    by : (s : Bool) → is_silent b ≡ s → ((m : ℕ) → m ≤ prefix_len is_silent bytes → texts_of (tokens_from m bytes) ≡ texts_of (tokens_from 0 bytes))
        → texts_of (tokens_from n bytes) ≡ texts_of (tokens_from 0 (b ∷ bytes))
    by true q ih =
        let at = rw q at h in
        let begins = silent-begins b q in
        let plain = no-text b bytes begins in
        ih n (omega (arith, at))
        ∙ sym (ih (front_at b bytes).more (front-skips b bytes begins plain))
        ∙ sym (texts-plain (front_at b bytes).token (tokens_from (front_at b bytes).more bytes) plain)
    by false q ih = let at = rw q at h in absurd (omega (arith, at))

-- a byte at which no text begins
skip : (b : ℕ) (bytes : List ℕ) → begins_text b ≡ false → texts_of (tokens_in (b ∷ bytes)) ≡ texts_of (tokens_in bytes)
unfolding tokens_in
skip b bytes e =
    let plain = no-text b bytes e in
    texts-plain (front_at b bytes).token (tokens_from (front_at b bytes).more bytes) plain ∙ texts-behind bytes (front_at b bytes).more (front-skips b bytes e plain)

pub texts-none : (b : ℕ) (rest bytes : List ℕ) → bytes ≡ b ∷ rest → begins_text b ≡ false → texts_of (tokens_in bytes) ≡ texts_of (tokens_in rest)
texts-none b rest bytes e h = ap (λ bs. texts_of (tokens_in bs)) e ∙ skip b rest h

-- ---- a token at which a text may begin

pub texts-found : (bytes : List ℕ) (f : Front) → first_front bytes ≡ Some f → is_text f.token ≡ true → texts_of (tokens_in bytes) ≡ f.token ∷ texts_of (tokens_in (drop (f.more + 1) bytes))
texts-found bytes f e h = ap texts_of (tokens-front bytes f e) ∙ rw h refl

pub texts-past : (bytes : List ℕ) (f : Front) → first_front bytes ≡ Some f → is_text f.token ≡ false → texts_of (tokens_in bytes) ≡ texts_of (tokens_in (drop (f.more + 1) bytes))
texts-past bytes f e h = ap texts_of (tokens-front bytes f e) ∙ texts-plain f.token (tokens_in (drop (f.more + 1) bytes)) h
