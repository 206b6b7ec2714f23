-- Two lists compared item by item.
use Rattle.std.proofs.Common.{◌≡◌, ◌∙◌, ℕ, ◌+◌, ◌<◌, Bool, ◌&&◌, List, ◌∷◌, length, drop, get_or, ap, sym, arith}
use Rattle.std.proofs.lemmas.List.{drop_more}
use Rattle.std.specs.Cmp.Lexicographic.{pointwise}

pub pairs_drop : {A : Type 0} (E : A → A → Bool) (xs ys : List A) (i : ℕ) (x y : A) → i < length xs → length xs ≡ length ys → x ≡ get_or xs i x → y ≡ get_or ys i y
    → pointwise E (drop i xs) (drop i ys) ≡ (E x y && pointwise E (drop (i + 1) xs) (drop (i + 1) ys))
pairs_drop E xs ys i x y below same is other =
    let under : i < length ys = omega (arith, below, same) in
    let left : drop i xs ≡ x ∷ drop (i + 1) xs = drop_more xs i x below ∙ ap (λ z. z ∷ drop (i + 1) xs) (sym is) in
    let right : drop i ys ≡ y ∷ drop (i + 1) ys = drop_more ys i y under ∙ ap (λ z. z ∷ drop (i + 1) ys) (sym other) in
    λ j. pointwise E (left j) (right j)
