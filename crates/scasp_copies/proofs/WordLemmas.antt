-- What words begin with, and the digits at their end.
use Rattle.std.proofs.Common.{◌≡◌, ◌∙◌, ℕ, ◌+◌, ◌-◌, ◌≤◌, Bool, true, false, List, [], ◌∷◌, ◌++◌, length, take, drop, reverse, refl, sym, ap, arith, length-append}
use Rattle.std.specs.Prelude.{nat_eq, ◌==◌, ◌&&◌}
use Rattle.std.specs.List.{prefix_len, starts_with, take_while}
use Rattle.std.proofs.lemmas.List.{length-reverse, reverse-reverse, reverse-append, take-append-drop, take_rest}
use Rattle.std.proofs.lemmas.List.Folds.{length-prefix_len}
use Rattle.std.proofs.lemmas.List.Sums.{prefix_len-le-length}
use Rattle.std.proofs.Math.Seq.{drop-append_seam}
use Rattle.scasp_copies.specs.Copies.{begins, is_digit, last_digits}

pub begins_is : (text words : List ℕ) → begins text words ≡ starts_with nat_eq words text
begins_is [] words = refl
begins_is (f ∷ fs) [] = refl
begins_is (f ∷ fs) (b ∷ bs) = ap (λ t. (f == b) && t) (begins_is fs bs)

pub digits_within : (words : List ℕ) → prefix_len is_digit (reverse words) ≤ length words
digits_within words = omega (arith, prefix_len-le-length is_digit (reverse words), length-reverse words)

pub last_length : (words : List ℕ) → length (last_digits words) ≡ prefix_len is_digit (reverse words)
last_length words = length-reverse (take_while is_digit (reverse words)) ∙ length-prefix_len is_digit (reverse words)

behind : (front last : List ℕ) → drop (length (front ++ last) - length last) (front ++ last) ≡ last
behind front last =
    let n : length (front ++ last) - length last ≡ length front = omega (arith, length-append front last) in
    ap (λ k. drop k (front ++ last)) n ∙ drop-append_seam front last

last_part : (words : List ℕ) → drop (length words - length (last_digits words)) words ≡ last_digits words
last_part words =
    let k = prefix_len is_digit (reverse words) in
    let last = reverse (take k (reverse words)) in
    let front = reverse (drop k (reverse words)) in
    let e : words ≡ front ++ last =
    sym (reverse-reverse words) ∙ ap reverse (sym (take-append-drop k (reverse words))) ∙ reverse-append (take k (reverse words)) (drop k (reverse words)) in
    ap (λ w. drop (length w - length last) w) e ∙ behind front last

pub last_rest : (words : List ℕ) (start : ℕ) → start ≡ length words - length (last_digits words) → take (length words - start) (drop start words) ≡ last_digits words
last_rest words start e = take_rest words start ∙ ap (λ k. drop k words) e ∙ last_part words
