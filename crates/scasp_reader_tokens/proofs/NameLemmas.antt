-- Bytes that may stand in a name are ASCII.
use Rattle.std.proofs.Common.{◌≡◌, ℕ, zero, suc, ◌<◌, Bool, true, false, cond, List, [], ◌∷◌, refl, sym, subst, arith, lit<}
use Rattle.std.specs.List.{take_while}
use Rattle.std.specs.Str.{IsAscii}
use Rattle.std.proofs.lemmas.Bool.Decides.{nat_tests}
use Rattle.std.proofs.lemmas.List.Sums.{take_while-cons}
use Rattle.scasp_reader_tokens.specs.Bytes.{is_name_byte}

name_byte-below : (b : ℕ) → is_name_byte b ≡ true → b < 128
name_byte-below b e = grind (arith, nat_tests)

IsAscii-nil : IsAscii []
IsAscii-nil i = lit< tt

IsAscii-cons : (b : ℕ) (bytes : List ℕ) → b < 128 → IsAscii bytes → IsAscii (b ∷ bytes)
IsAscii-cons b bytes h all zero = h
IsAscii-cons b bytes h all (suc i) = all i

pub name-IsAscii : (bytes : List ℕ) → IsAscii (take_while is_name_byte bytes)
name-IsAscii [] = IsAscii-nil
name-IsAscii (b ∷ bytes) = let P : List ℕ → Type 0 = λ x. IsAscii x in subst P (sym (take_while-cons is_name_byte b bytes)) (by (is_name_byte b) (λ e. name_byte-below b e) (name-IsAscii bytes))
  where
    by : (t : Bool) → (t ≡ true → b < 128) → IsAscii (take_while is_name_byte bytes) → IsAscii (cond t (b ∷ take_while is_name_byte bytes) [])
    by true h all = IsAscii-cons b (take_while is_name_byte bytes) (h refl) all
    by false h all = IsAscii-nil
