-- A sum of two products, by its lowest 128 bits.
use Rattle.std.proofs.Common.{◌≡◌, ◌+◌, ◌*◌, ◌%◌, ◌^◌, ◌<◌, lit<, ℤ, pos, ◌+ℤ◌, ◌*ℤ◌, sym, ap, ◌∙◌, FitsSigned}
use Rattle.std.specs.Int.{w128, int_wrap, cast_signed, cast_unsigned}
use Rattle.std.proofs.lemmas.Int.{to_z-of_z, of_z-to_z, wrapping_add-bits, wrapping_mul_onto, int_wrap-add_left, int_wrap-add_right, int_wrap_fits, fits_signed_from_abs}
use Rattle.std.proofs.Math.Nat.{mod-lt}
use Rattle.std.proofs.Math.Facts.{Fits-of_z}

product-bits : (a c : ℤ) → FitsSigned w128 a → FitsSigned w128 c → cast_signed w128 ((cast_unsigned w128 a * cast_unsigned w128 c) % 2 ^ 128) ≡ int_wrap w128 (a *ℤ c)
product-bits a c fa fc = wrapping_mul_onto w128 (cast_unsigned w128 a) c ((Fits-of_z fa).fits) fc ∙ ap (λ z. int_wrap w128 (z *ℤ c)) (to_z-of_z w128 a fa)

pub sum-bits : (a c b d : ℤ) → FitsSigned w128 a → FitsSigned w128 c → FitsSigned w128 b → FitsSigned w128 d → a *ℤ c +ℤ b *ℤ d ≡ pos 0 → ((cast_unsigned w128 a * cast_unsigned w128 c) % 2 ^ 128 + (cast_unsigned w128 b * cast_unsigned w128 d) % 2 ^ 128) % 2 ^ 128 ≡ 0
sum-bits a c b d fa fc fb fd e =
    let p = (cast_unsigned w128 a * cast_unsigned w128 c) % 2 ^ 128 in
    let q = (cast_unsigned w128 b * cast_unsigned w128 d) % 2 ^ 128 in
    let hp : p < 2 ^ 128 = mod-lt (cast_unsigned w128 a * cast_unsigned w128 c) (lit< tt) in
    let hq : q < 2 ^ 128 = mod-lt (cast_unsigned w128 b * cast_unsigned w128 d) (lit< tt) in
    let hn : (p + q) % 2 ^ 128 < 2 ^ 128 = mod-lt (p + q) (lit< tt) in
    let read : cast_signed w128 ((p + q) % 2 ^ 128) ≡ pos 0 =
    wrapping_add-bits w128 p q hp hq ∙ (λ i. int_wrap w128 (product-bits a c fa fc i +ℤ product-bits b d fb fd i)) ∙ int_wrap-add_left w128 (a *ℤ c) (int_wrap w128 (b *ℤ d)) ∙ int_wrap-add_right w128 (a *ℤ c) (b *ℤ d) ∙ ap (int_wrap w128) e ∙ int_wrap_fits w128 (pos 0) (fits_signed_from_abs w128 (pos 0) (lit< tt)) in
    sym (of_z-to_z w128 ((p + q) % 2 ^ 128) hn) ∙ ap (cast_unsigned w128) read
