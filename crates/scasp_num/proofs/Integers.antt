-- Laws of whole numbers that the arithmetic tactics do not have: of products, and of sums and products together.
use Rattle.std.proofs.Common.{◌≡◌, ◌+◌, ◌*◌, ◌<◌, ℤ, pos, negsuc, ◌+ℤ◌, ◌*ℤ◌, neg_ℤ, ◌<ℤ◌, sym, ap, ◌∙◌, arith}
use Rattle.std.proofs.lemmas.Int.{ints}
use Rattle.std.proofs.Math.IntN.{*ℤ_comm}
use Rattle.std.proofs.Math.Nat.{eq_of_mul-eq-mul_right}
use borrow.Author.Differences.{up, down, same_in, product_is, sum_is_lem, neg_is}

pub *ℤ_assoc : (a b c : ℤ) → (a *ℤ b) *ℤ c ≡ a *ℤ (b *ℤ c)
*ℤ_assoc a b c =
    let l = product_is a b in
    let r = product_is b c in
    let m = product_is (a *ℤ b) c in
    let n = product_is a (b *ℤ c) in
    same_in ((a *ℤ b) *ℤ c) (a *ℤ (b *ℤ c)) (omega (arith, ap (λ x. x * up c) l.0, ap (λ x. x * down c) l.0, ap (λ x. x * up c) l.1, ap (λ x. x * down c) l.1, ap (λ x. up a * x) r.0, ap (λ x. down a * x) r.0, ap (λ x. up a * x) r.1, ap (λ x. down a * x) r.1))

pub *ℤ-+ℤ : (a b c : ℤ) → a *ℤ (b +ℤ c) ≡ a *ℤ b +ℤ a *ℤ c
*ℤ-+ℤ a b c =
    let s = sum_is_lem b c in
    let m = product_is a (b +ℤ c) in
    let l = product_is a b in
    let r = product_is a c in
    let t = sum_is_lem (a *ℤ b) (a *ℤ c) in
    same_in (a *ℤ (b +ℤ c)) (a *ℤ b +ℤ a *ℤ c) (omega (arith, ap (λ x. up a * x) s, ap (λ x. down a * x) s))

pub neg-*ℤ : (a b : ℤ) → neg_ℤ a *ℤ b ≡ neg_ℤ (a *ℤ b)
neg-*ℤ a b =
    let m = product_is (neg_ℤ a) b in
    let n = neg_is a in
    same_in (neg_ℤ a *ℤ b) (neg_ℤ (a *ℤ b)) (omega (arith, product_is a b, neg_is (a *ℤ b), ap (λ x. x * up b) n.0, ap (λ x. x * down b) n.0, ap (λ x. x * up b) n.1, ap (λ x. x * down b) n.1))

pub +ℤ-*ℤ : (a b c : ℤ) → (a +ℤ b) *ℤ c ≡ a *ℤ c +ℤ b *ℤ c
+ℤ-*ℤ a b c = *ℤ_comm (a +ℤ b) c ∙ *ℤ-+ℤ c a b ∙ (λ i. *ℤ_comm c a i +ℤ *ℤ_comm c b i)

pub *ℤ_right_comm : (a b c : ℤ) → (a *ℤ b) *ℤ c ≡ (a *ℤ c) *ℤ b
*ℤ_right_comm a b c = *ℤ_assoc a b c ∙ ap (λ x. a *ℤ x) (*ℤ_comm b c) ∙ sym (*ℤ_assoc a c b)

pub *ℤ_shuffle : (a b c d : ℤ) → (a *ℤ b) *ℤ (c *ℤ d) ≡ (a *ℤ c) *ℤ (b *ℤ d)
*ℤ_shuffle a b c d =
    *ℤ_assoc a b (c *ℤ d) ∙ ap (λ x. a *ℤ x) (sym (*ℤ_assoc b c d) ∙ ap (λ x. x *ℤ d) (*ℤ_comm b c) ∙ *ℤ_assoc c b d) ∙ sym (*ℤ_assoc a c (b *ℤ d))

-- a factor above 0 cancels
pub *ℤ-cancel : (a b c : ℤ) → pos 0 <ℤ c → a *ℤ c ≡ b *ℤ c → a ≡ b
*ℤ-cancel a b (negsuc k) h e = absurd (omega (arith, ints))
*ℤ-cancel a b (pos k) h e =
    let m = product_is a (pos k) in
    let n = product_is b (pos k) in
    let above : 0 < k = omega (arith, ints) in
    let same : (up a + down b) * k ≡ (up b + down a) * k = omega (arith, ap up e, ap down e) in
    same_in a b (eq_of_mul-eq-mul_right k above (up a + down b) (up b + down a) same)
