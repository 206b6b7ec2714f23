-- A text between quotes, with its escapes, ends where it should and stands for the text.
use Rattle.std.proofs.Common.{◌≡◌, ℕ, ◌+◌, ◌<◌, ◌≤◌, ◌/◌, Bool, true, false, cond, not, ◌&&◌, ◌||◌, ◌==◌, List, [], ◌∷◌, ◌++◌, length, drop, get_or, Option, None, Some, codes, flat_map, refl, sym, ap, ◌∙◌, subst, arith, inl, inr, lit<, append_assoc, length-append}
use Rattle.std.proofs.lemmas.Bool.{and_parts, cases_lt}
use Rattle.std.proofs.lemmas.Bool.Decides.{nat_tests}
use Rattle.std.proofs.lemmas.Grind.{flat_map-append}
use Rattle.std.proofs.lemmas.List.{append-nil}
use Rattle.std.specs.Str.{IsUtf8, IsAscii}
use Rattle.std.proofs.lemmas.Str.{IsUtf8-append, IsUtf8-nil, IsUtf8-encode, IsUtf8-from_ascii, encode_ascii}
use lib.Utf8.{scalar, scalars, next, encode, encodes}
use Rattle.std.proofs.Math.Dec.{ltb}
use Rattle.scasp_cert.specs.Text.Names.{escaped}
use Rattle.scasp_reader_tokens.specs.Bytes.{farther}
use Rattle.scasp_reader_tokens.specs.Quoted.{begins_pair, is_pair, byte_of_escape, is_escape, quoted_length, text_of, length_before_bad}
use Rattle.scasp_reader_tokens.proofs.QuotedLemmas.{quoted_length-plain, text_of-plain, length_before_bad-plain}

-- how a byte is written: by itself, or as a backslash and another
pub data Escape (c : ℕ) : Type 0 where
  pair : (d : ℕ) → escaped c ≡ 92 ∷ d ∷ [] → byte_of_escape d ≡ c → is_escape d ≡ true → Escape c
  alone : escaped c ≡ c ∷ [] → (c == 92) ≡ false → (c == 39) ≡ false → Escape c

pub escape-of : (c : ℕ) → Escape c
escape-of c = by (c == 39) (c == 92) (c == 10) (c == 9) refl refl refl refl
  where
    by : (q b n t : Bool) → (c == 39) ≡ q → (c == 92) ≡ b → (c == 10) ≡ n → (c == 9) ≡ t → Escape c
    by true b n t eq eb en et = let is : c ≡ 39 = grind (arith, nat_tests) in subst Escape (sym is) (pair 39 refl refl refl)
    by false true n t eq eb en et = let is : c ≡ 92 = grind (arith, nat_tests) in subst Escape (sym is) (pair 92 refl refl refl)
    by false false true t eq eb en et = let is : c ≡ 10 = grind (arith, nat_tests) in subst Escape (sym is) (pair 110 refl refl refl)
    by false false false true eq eb en et = let is : c ≡ 9 = grind (arith, nat_tests) in subst Escape (sym is) (pair 116 refl refl refl)
    by false false false false eq eb en et = alone (rw (eq, eb, en, et) refl) eb eq

-- a byte by itself begins no pair
no-pair : (c : ℕ) (bytes : List ℕ) → (c == 92) ≡ false → (c == 39) ≡ false → begins_pair (c ∷ bytes) ≡ false
no-pair c [] b q = refl
no-pair c (d ∷ bytes) b q = rw (b, q) refl

-- ---- one byte more

text_of-escape : (c : ℕ) (bytes : List ℕ) → text_of (escaped c ++ bytes) ≡ c ∷ text_of bytes
text_of-escape c bytes = by (escape-of c)
  where
    by : Escape c → text_of (escaped c ++ bytes) ≡ c ∷ text_of bytes
    by (pair d e is can) = ap (λ x. text_of (x ++ bytes)) e ∙ ap (λ x. x ∷ text_of bytes) is
    by (alone e b q) = ap (λ x. text_of (x ++ bytes)) e ∙ text_of-plain (c ∷ bytes) (omega arith) (no-pair c bytes b q)

bad-escape : (c : ℕ) (bytes : List ℕ) → length_before_bad bytes ≡ None → length_before_bad (escaped c ++ bytes) ≡ None
bad-escape c bytes h = by (escape-of c)
  where
    by : Escape c → length_before_bad (escaped c ++ bytes) ≡ None
    by (pair d e is can) = ap (λ x. length_before_bad (x ++ bytes)) e ∙ rw can (rw h refl)
    by (alone e b q) =
        ap (λ x. length_before_bad (x ++ bytes)) e ∙ length_before_bad-plain (c ∷ bytes) (omega arith) (no-pair c bytes b q) ∙ ap (farther 1) h

farther-some : (n k m : ℕ) (o : Option ℕ) → o ≡ Some k → k + n ≡ m → farther n o ≡ Some m
farther-some n k m o e s = ap (farther n) e ∙ ap Some s

length-escape : (c : ℕ) (bytes : List ℕ) (k : ℕ) → quoted_length bytes ≡ Some k → quoted_length (escaped c ++ bytes) ≡ Some (length (escaped c) + k)
length-escape c bytes k h = by (escape-of c)
  where
    is-quote : (c == 39) ≡ false → c ≡ 39 → ⊥
    is-quote q e = grind (arith, nat_tests)

    by : Escape c → quoted_length (escaped c ++ bytes) ≡ Some (length (escaped c) + k)
    by (pair d e is can) =
        ap (λ x. quoted_length (x ++ bytes)) e
        ∙ farther-some 2 k (2 + k) (quoted_length bytes) h (omega arith) ∙ ap (λ x. Some (length x + k)) (sym e)
    by (alone e b q) =
        ap (λ x. quoted_length (x ++ bytes)) e ∙ quoted_length-plain (c ∷ bytes) (omega arith) (no-pair c bytes b q) (is-quote q)
        ∙ farther-some 1 k (1 + k) (quoted_length bytes) h (omega arith) ∙ ap (λ x. Some (length x + k)) (sym e)

-- ---- all bytes

pub text_of-escapes : (text : List ℕ) → text_of (flat_map escaped text) ≡ text
text_of-escapes [] = refl
text_of-escapes (c ∷ text) = text_of-escape c (flat_map escaped text) ∙ ap (λ r. c ∷ r) (text_of-escapes text)

pub bad-escapes : (text : List ℕ) → length_before_bad (flat_map escaped text) ≡ None
bad-escapes [] = refl
bad-escapes (c ∷ text) = bad-escape c (flat_map escaped text) (bad-escapes text)

pub length-escapes : (text end : List ℕ) → quoted_length end ≡ Some 0 → quoted_length (flat_map escaped text ++ end) ≡ Some (length (flat_map escaped text))
length-escapes [] end h = h
length-escapes (c ∷ text) end h =
    ap quoted_length (append_assoc (escaped c) (flat_map escaped text) end)
    ∙ length-escape c (flat_map escaped text ++ end) (length (flat_map escaped text)) (length-escapes text end h)
    ∙ ap Some (sym (length-append (escaped c) (flat_map escaped text)))

-- ---- UTF-8

high-alone : (x : ℕ) → 128 ≤ x → escaped x ≡ x ∷ []
high-alone x h = grind (arith, nat_tests)

encode-alone : (c : ℕ) → 128 ≤ c → flat_map escaped (encode c) ≡ encode c
unfolding encode
encode-alone c h = by (ltb c 128) (ltb c 2048) (ltb c 65536) refl
  where
    one : (x : ℕ) (bytes : List ℕ) → 128 ≤ x → flat_map escaped bytes ≡ bytes → flat_map escaped (x ∷ bytes) ≡ x ∷ bytes
    one x bytes h e = ap (λ y. y ++ flat_map escaped bytes) (high-alone x h) ∙ ap (λ r. x ∷ r) e

    by : (t u v : Bool) → ltb c 128 ≡ t
        → flat_map escaped (cond t (c ∷ []) (cond u ((192 + c / 64) ∷ next c ∷ []) (cond v ((224 + c / 4096) ∷ next (c / 64) ∷ next c ∷ []) ((240 + c / 262144) ∷ next (c / 4096) ∷ next (c / 64) ∷ next c ∷ []))))
        ≡ cond t (c ∷ []) (cond u ((192 + c / 64) ∷ next c ∷ []) (cond v ((224 + c / 4096) ∷ next (c / 64) ∷ next c ∷ []) ((240 + c / 262144) ∷ next (c / 4096) ∷ next (c / 64) ∷ next c ∷ [])))
    by true u v e = absurd (grind (arith, nat_tests))
    by false true v e = one _ _ (omega arith) (one _ _ (omega arith) refl)
    by false false true e = one _ _ (omega arith) (one _ _ (omega arith) (one _ _ (omega arith) refl))
    by false false false e = one _ _ (omega arith) (one _ _ (omega arith) (one _ _ (omega arith) (one _ _ (omega arith) refl)))

escaped-IsUtf8 : (c : ℕ) → scalar c ≡ true → IsUtf8 (flat_map escaped (encode c))
escaped-IsUtf8 c s = elim (cases_lt c 128) [
  | inl h ↦ subst IsUtf8 (sym (ap (flat_map escaped) (encode_ascii c h) ∙ append-nil (escaped c))) (ascii (escape-of c) h)
  | inr h ↦ subst IsUtf8 (sym (encode-alone c h)) (IsUtf8-encode c s)
]
  where
    one : (x : ℕ) (bytes : List ℕ) → x < 128 → IsUtf8 bytes → IsUtf8 (x ∷ bytes)
    one x bytes h u =
        let s : scalar x ≡ true = grind (arith, nat_tests) in
        let P : List ℕ → Type 0 = λ bs. IsUtf8 (bs ++ bytes) in
        subst P (encode_ascii x h) (IsUtf8-append (encode x) bytes (IsUtf8-encode x s) u)

    escape-ascii : (d : ℕ) → is_escape d ≡ true → d < 128
    escape-ascii d e = grind (arith, nat_tests)

    ascii : Escape c → c < 128 → IsUtf8 (escaped c)
    ascii (pair d e is can) h = subst IsUtf8 (sym e) (one 92 (d ∷ []) (lit< tt) (one d [] (escape-ascii d can) IsUtf8-nil))
    ascii (alone e b q) h = subst IsUtf8 (sym e) (one c [] h IsUtf8-nil)

of-chars : (cs : List ℕ) → scalars cs ≡ true → IsUtf8 (flat_map escaped (encodes cs))
of-chars [] s = IsUtf8-nil
of-chars (c ∷ cs) s =
    let parts = and_parts (scalar c) (scalars cs) s in
    subst IsUtf8 (sym (flat_map-append escaped (encode c) (encodes cs)))
    (IsUtf8-append (flat_map escaped (encode c)) (flat_map escaped (encodes cs)) (escaped-IsUtf8 c parts.0) (of-chars cs parts.1))

pub escapes-IsUtf8 : (text : List ℕ) → IsUtf8 text → IsUtf8 (flat_map escaped text)
escapes-IsUtf8 text (cs, (s, e)) = let P : List ℕ → Type 0 = λ bs. IsUtf8 (flat_map escaped bs) in subst P e (of-chars cs s)
