-- A row whose variables are renamed in their order stays in normal form.
use Rattle.std.proofs.Common.{◌≡◌, ◌≢◌, ◌∙◌, ℕ, ◌<◌, ◌≤◌, ◌&&◌, cond, ℤ, pos, List, [], ◌∷◌, map, refl, ap, sym, subst}
use Rattle.std.specs.Prelude.{int_lt}
use Rattle.scasp_list.specs.Each.{Each}
use Rattle.scasp_num.specs.Linear.{Ascends, IsNormal, Linear, common_divisor, is_symmetric, is_zero, leads_below}
use Rattle.scasp_num.specs.Number.{InRange}
use Rattle.scasp_num.specs.declared.linear.Coeff.{Coeff}

abbrev pub renamed_term : (ℕ → ℕ) → Coeff → Coeff
renamed_term f k = record { x = f k.x; c = k.c }

abbrev pub renamed : (ℕ → ℕ) → Linear → Linear
renamed f r = record { coeffs = map (λ k. record { x = f k.x; c = k.c }) r.coeffs; constant = r.constant; op = r.op }

module _ (f : ℕ → ℕ) where
  each-renamed : (P Q : Coeff → Type 0) → ((k : Coeff) → P k → Q (renamed_term f k)) → (ks : List Coeff) → Each P ks → Each Q (map (renamed_term f) ks)
  each-renamed P Q g [] h = tt
  each-renamed P Q g (k ∷ ks) h = (g k h.0, each-renamed P Q g ks h.1)

  renamed-ascends : ((x y : ℕ) → x < y → f x < f y) → (ks : List Coeff) → Ascends ks → Ascends (map (renamed_term f) ks)
  renamed-ascends g [] h = tt
  renamed-ascends g (k ∷ ks) h = (each-renamed (λ j. k.x < j.x) (λ j. f k.x < j.x) (λ j l. g k.x j.x l) ks h.0, renamed-ascends g ks h.1)

  same-integers : (ks : List Coeff) → map (λ (k : Coeff). k.c) (map (renamed_term f) ks) ≡ map (λ k. k.c) ks
  same-integers [] = refl
  same-integers (k ∷ ks) = ap (λ (zs : List ℤ). k.c ∷ zs) (same-integers ks)

  same-lead : (ks : List Coeff) (z : ℤ) → leads_below (map (renamed_term f) ks) z ≡ leads_below ks z
  same-lead [] z = refl
  same-lead (k ∷ ks) z = ap (λ b. cond (is_zero k.c) b (int_lt k.c (pos 0))) (same-lead ks z)

  pub renamed-normal : ((x y : ℕ) → x < y → f x < f y) → (r : Linear) → IsNormal r → IsNormal (renamed f r)
  renamed-normal g r n =
      record {
        ascending = renamed-ascends g r.coeffs n.ascending;
        nonzero = each-renamed (λ k. k.c ≢ pos 0) (λ k. k.c ≢ pos 0) (λ k h. h) r.coeffs n.nonzero;
        constant_range = n.constant_range;
        range = each-renamed (λ k. InRange k.c) (λ k. InRange k.c) (λ k h. h) r.coeffs n.range;
        primitive = subst (λ (zs : List ℤ). common_divisor (r.constant ∷ zs) ≤ 1) (sym (same-integers r.coeffs)) n.primitive;
        sign = ap (λ b. is_symmetric r.op && b) (same-lead r.coeffs r.constant) ∙ n.sign;
      }
