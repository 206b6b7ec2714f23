-- Names in quotes, a byte or two after the other.
use Rattle.std.proofs.Common.{◌≡◌, ◌≢◌, ℕ, ◌<◌, Bool, true, false, ◌==◌, List, [], ◌∷◌, ◌++◌, ◌+◌, length, drop, get_or, Some, refl, sym, ap, ◌∙◌, append_assoc, arith}
use Rattle.std.proofs.lemmas.Bool.{eqb-true}
use Rattle.std.proofs.lemmas.List.{drop-drop}
use Rattle.scasp_reader_tokens.specs.Bytes.{farther}
use Rattle.scasp_reader_tokens.specs.Quoted.{begins_pair, quoted_length, byte_of_escape, text_of, is_escape, length_before_bad}

pub quoted_length-pair : (bytes : List ℕ) → begins_pair bytes ≡ true → quoted_length bytes ≡ farther 2 (quoted_length (drop 2 bytes))
quoted_length-pair [] e = cc
quoted_length-pair (b ∷ []) e = cc
quoted_length-pair (b ∷ c ∷ bytes) e = rw e refl

not_quote : (b : ℕ) → b ≢ 39 → (t : Bool) → (b == 39) ≡ t → t ≡ false
not_quote b n true e = absurd (n (eqb-true b 39 e))
not_quote b n false e = refl

pub quoted_length-plain : (bytes : List ℕ) → 0 < length bytes → begins_pair bytes ≡ false → get_or bytes 0 0 ≢ 39 → quoted_length bytes ≡ farther 1 (quoted_length (drop 1 bytes))
quoted_length-plain [] h e n = absurd (omega arith)
quoted_length-plain (b ∷ []) h e n = let q : (b == 39) ≡ false = not_quote b n (b == 39) refl in rw q refl
quoted_length-plain (b ∷ c ∷ bytes) h e n = let q : (b == 39) ≡ false = not_quote b n (b == 39) refl in rw (e, q) refl

pub quoted_length-end : (bytes : List ℕ) → 0 < length bytes → begins_pair bytes ≡ false → get_or bytes 0 0 ≡ 39 → quoted_length bytes ≡ Some 0
quoted_length-end [] h e n = absurd (omega arith)
quoted_length-end (b ∷ []) h e n = rw n refl
quoted_length-end (b ∷ c ∷ bytes) h e n = rw e (rw n refl)

pub text_of-pair : (bytes : List ℕ) → begins_pair bytes ≡ true → text_of bytes ≡ byte_of_escape (get_or bytes 1 0) ∷ text_of (drop 2 bytes)
text_of-pair [] e = cc
text_of-pair (b ∷ []) e = cc
text_of-pair (b ∷ c ∷ bytes) e = rw e refl

pub text_of-plain : (bytes : List ℕ) → 0 < length bytes → begins_pair bytes ≡ false → text_of bytes ≡ get_or bytes 0 0 ∷ text_of (drop 1 bytes)
text_of-plain [] h e = absurd (omega arith)
text_of-plain (b ∷ []) h e = refl
text_of-plain (b ∷ c ∷ bytes) h e = rw e refl

pub length_before_bad-pair : (bytes : List ℕ) → begins_pair bytes ≡ true → is_escape (get_or bytes 1 0) ≡ true → length_before_bad bytes ≡ farther 2 (length_before_bad (drop 2 bytes))
length_before_bad-pair [] e t = cc
length_before_bad-pair (b ∷ []) e t = cc
length_before_bad-pair (b ∷ c ∷ bytes) e t = rw (e, t) refl

pub length_before_bad-found : (bytes : List ℕ) → begins_pair bytes ≡ true → is_escape (get_or bytes 1 0) ≡ false → length_before_bad bytes ≡ Some 0
length_before_bad-found [] e t = cc
length_before_bad-found (b ∷ []) e t = cc
length_before_bad-found (b ∷ c ∷ bytes) e t = rw (e, t) refl

pub length_before_bad-plain : (bytes : List ℕ) → 0 < length bytes → begins_pair bytes ≡ false → length_before_bad bytes ≡ farther 1 (length_before_bad (drop 1 bytes))
length_before_bad-plain [] h e = absurd (omega arith)
length_before_bad-plain (b ∷ []) h e = refl
length_before_bad-plain (b ∷ c ∷ bytes) h e = rw e refl

-- a byte more of the text, for n bytes
pub text_of-more : (bytes rest : List ℕ) (at : ℕ) → rest ≡ drop at bytes → (text : List ℕ) (n b : ℕ) → text_of rest ≡ b ∷ text_of (drop n rest) → (text ++ b ∷ []) ++ text_of (drop (at + n) bytes) ≡ text ++ text_of (drop at bytes)
text_of-more bytes rest at r text n b e =
    append_assoc text (b ∷ []) (text_of (drop (at + n) bytes)) ∙ ap (λ x. text ++ b ∷ text_of x) (sym (drop-drop n at bytes) ∙ ap (drop n) (sym r)) ∙ ap (λ x. text ++ x) (sym e ∙ ap text_of r)
