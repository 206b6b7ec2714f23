-- The text that UTF-8 between quotes stands for is UTF-8.
use Rattle.std.proofs.Common.{◌≡◌, ℕ, ◌+◌, ◌/◌, ◌<◌, ◌≤◌, Bool, true, false, cond, List, [], ◌∷◌, ◌++◌, refl, sym, ap, ◌∙◌, subst, arith, inl, inr}
use Rattle.std.proofs.lemmas.Bool.{and_parts, cases_lt}
use Rattle.std.proofs.lemmas.Bool.Decides.{nat_tests}
use Rattle.std.specs.Str.{IsUtf8}
use Rattle.std.proofs.lemmas.Str.{IsUtf8-append, IsUtf8-nil, IsUtf8-encode, encode_ascii}
use lib.Utf8.{scalar, scalars, next, encode, encodes}
use Rattle.std.proofs.Math.Dec.{ltb}
use Rattle.scasp_reader_tokens.specs.Quoted.{is_pair, byte_of_escape, text_of}

-- bytes of characters that are not ASCII
abbrev AreHigh : List ℕ → Type 0
AreHigh [] = Unit {0}
AreHigh (x ∷ xs) = (128 ≤ x) × AreHigh xs

encode-high : (c : ℕ) → 128 ≤ c → (x : ℕ) × (xs : List ℕ) × (encode c ≡ x ∷ xs) × (128 ≤ x) × AreHigh xs
unfolding encode
encode-high c h = by (ltb c 128) (ltb c 2048) (ltb c 65536) refl
  where
    by : (t u v : Bool) → ltb c 128 ≡ t
        → (x : ℕ) × (xs : List ℕ) × (cond t (c ∷ []) (cond u ((192 + c / 64) ∷ next c ∷ []) (cond v ((224 + c / 4096) ∷ next (c / 64) ∷ next c ∷ []) ((240 + c / 262144) ∷ next (c / 4096) ∷ next (c / 64) ∷ next c ∷ []))) ≡ x ∷ xs) × (128 ≤ x) × AreHigh xs
    by true u v e = absurd (grind (arith, nat_tests))
    by false true v e = (_, _, refl, omega arith, (omega arith, tt))
    by false false true e = (_, _, refl, omega arith, (omega arith, (omega arith, tt)))
    by false false false e = (_, _, refl, omega arith, (omega arith, (omega arith, (omega arith, tt))))

text_of-high : (x : ℕ) (bytes : List ℕ) → 128 ≤ x → text_of (x ∷ bytes) ≡ x ∷ text_of bytes
text_of-high x [] h = refl
text_of-high x (c ∷ bytes) h = let p : is_pair x c ≡ false = grind (arith, nat_tests) in rw p refl

text_of-highs : (xs ys : List ℕ) → AreHigh xs → text_of (xs ++ ys) ≡ xs ++ text_of ys
text_of-highs [] ys h = refl
text_of-highs (x ∷ xs) ys h = text_of-high x (xs ++ ys) h.0 ∙ ap (λ r. x ∷ r) (text_of-highs xs ys h.1)

byte_of_escape-high : (x : ℕ) → 128 ≤ x → byte_of_escape x ≡ x
byte_of_escape-high x h = grind (arith, nat_tests)

byte_of_escape-ascii : (x : ℕ) → x < 128 → byte_of_escape x < 128
byte_of_escape-ascii x h = grind (arith, nat_tests)

IsUtf8-ascii : (b : ℕ) (bytes : List ℕ) → b < 128 → IsUtf8 bytes → IsUtf8 (b ∷ bytes)
IsUtf8-ascii b bytes h u =
    let one : encode b ≡ b ∷ [] = encode_ascii b h in
    let s : scalar b ≡ true = grind (arith, nat_tests) in
    let P : List ℕ → Type 0 = λ bs. IsUtf8 (bs ++ bytes) in
    subst P one (IsUtf8-append (encode b) bytes (IsUtf8-encode b s) u)

two_ascii : (c d : ℕ) (bytes : List ℕ) → c < 128 → d < 128 → IsUtf8 (text_of bytes) → IsUtf8 (text_of (d ∷ bytes)) → IsUtf8 (text_of (c ∷ d ∷ bytes))
two_ascii c d bytes h g u v = by (is_pair c d)
  where
    by : (t : Bool) → IsUtf8 (cond t (byte_of_escape d ∷ text_of bytes) (c ∷ text_of (d ∷ bytes)))
    by true = IsUtf8-ascii (byte_of_escape d) (text_of bytes) (byte_of_escape-ascii d g) u
    by false = IsUtf8-ascii c (text_of (d ∷ bytes)) h v

-- a character that is not ASCII
module _ (d : ℕ) (g : 128 ≤ d) (s : scalar d ≡ true) (bytes : List ℕ) (u : IsUtf8 (text_of bytes)) where
  highs : AreHigh (encode d)
  highs = let e = encode-high d g in subst AreHigh (sym e.2) (e.3, e.4)

  high_first : IsUtf8 (text_of (encode d ++ bytes))
  high_first = subst IsUtf8 (sym (text_of-highs (encode d) bytes highs)) (IsUtf8-append (encode d) (text_of bytes) (IsUtf8-encode d s) u)

  behind_one : (c : ℕ) → c < 128 → (x : ℕ) (xs : List ℕ) → 128 ≤ x → IsUtf8 (text_of (x ∷ xs)) → IsUtf8 (text_of (c ∷ x ∷ xs))
  behind_one c h x xs i v = by (is_pair c x)
    where
      by : (t : Bool) → IsUtf8 (cond t (byte_of_escape x ∷ text_of xs) (c ∷ text_of (x ∷ xs)))
      by true = subst IsUtf8 (text_of-high x xs i ∙ ap (λ y. y ∷ text_of xs) (sym (byte_of_escape-high x i))) v
      by false = IsUtf8-ascii c (text_of (x ∷ xs)) h v

  high_second : (c : ℕ) → c < 128 → IsUtf8 (text_of (c ∷ (encode d ++ bytes)))
  high_second c h =
      let e = encode-high d g in
      let P : List ℕ → Type 0 = λ bs. IsUtf8 (text_of (c ∷ (bs ++ bytes))) in
      let Q : List ℕ → Type 0 = λ bs. IsUtf8 (text_of (bs ++ bytes)) in
      subst P (sym e.2) (behind_one c h e.0 (e.1 ++ bytes) e.3 (subst Q e.2 high_first))

mutual
  of_chars : (cs : List ℕ) → scalars cs ≡ true → IsUtf8 (text_of (encodes cs))
  of_chars [] s = IsUtf8-nil
  of_chars (c ∷ cs) s =
      let parts = and_parts (scalar c) (scalars cs) s in
      elim (cases_lt c 128) [
        | inl h ↦ let P : List ℕ → Type 0 = λ bs. IsUtf8 (text_of (bs ++ encodes cs)) in subst P (sym (encode_ascii c h)) (behind_ascii c h cs parts.1)
        | inr h ↦ high_first c h parts.0 (encodes cs) (of_chars cs parts.1)
      ]

  behind_ascii : (c : ℕ) → c < 128 → (cs : List ℕ) → scalars cs ≡ true → IsUtf8 (text_of (c ∷ encodes cs))
  behind_ascii c h [] s = IsUtf8-ascii c [] h IsUtf8-nil
  behind_ascii c h (d ∷ cs) s =
      let parts = and_parts (scalar d) (scalars cs) s in
      elim (cases_lt d 128) [
        | inl g ↦ let P : List ℕ → Type 0 = λ bs. IsUtf8 (text_of (c ∷ (bs ++ encodes cs))) in subst P (sym (encode_ascii d g)) (two_ascii c d (encodes cs) h g (of_chars cs parts.1) (behind_ascii d g cs parts.1))
        | inr g ↦ high_second d g parts.0 (encodes cs) (of_chars cs parts.1) c h
      ]

pub IsUtf8-text_of : (bytes : List ℕ) → IsUtf8 bytes → IsUtf8 (text_of bytes)
IsUtf8-text_of bytes (cs, (s, e)) = let P : List ℕ → Type 0 = λ bs. IsUtf8 (text_of bs) in subst P e (of_chars cs s)
