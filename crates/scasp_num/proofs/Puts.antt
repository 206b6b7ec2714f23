-- A variable of a row replaced by a number.
use Rattle.std.proofs.Common.{◌≡◌, ◌↔◌, ℕ, ◌<◌, Bool, true, false, ◌==◌, ℤ, pos, ◌+ℤ◌, ◌*ℤ◌, Some, List, [], ◌∷◌, refl, sym, ap, subst, ◌∙◌, arith}
use Rattle.std.specs.Prelude.{if◌then◌else◌}
use Rattle.std.proofs.lemmas.Bool.{eqb-true}
use Rattle.std.proofs.Math.IntN.{*ℤ_comm, +ℤ_idr, +ℤ_idl, zero-*ℤ, +ℤ_assoc, +ℤ_comm}
use Rattle.scasp_num.specs.declared.linear.Coeff.{Coeff}
use Rattle.scasp_num.specs.Number.{Number, InRange}
use Rattle.scasp_num.specs.Arithmetic.{◌>>=◌, within}
use Rattle.scasp_list.specs.Each.{Each}
use Rattle.scasp_num.specs.Linear.{Linear, Ascends, normal_form, weighted, Compares, Meets, coefficient, others_times, put_constant, put_of, replaced}
use Rattle.scasp_num.proofs.Integers.{*ℤ_assoc, *ℤ_right_comm, +ℤ-*ℤ}
use Rattle.scasp_num.proofs.Numbers.{within-some}
use Rattle.scasp_num.proofs.Exact.{bind-some}
use Rattle.scasp_num.proofs.Meaning.{normal_form-meets_of}

-- a list of what is left, from the first term that is kept
pub kept-some : (d : ℤ) (x : ℕ) (k : Coeff) (ks others : List Coeff) → Some others ≡ (within (d *ℤ k.c) >>= (λ c. others_times d x ks >>= (λ rest. Some (record { x = k.x; c = c } ∷ rest)))) → (c : ℤ) × (rest : List Coeff) × (c ≡ d *ℤ k.c) × InRange c × (Some rest ≡ others_times d x ks) × (others ≡ record { x = k.x; c = c } ∷ rest)
kept-some d x k ks others e =
    let a = bind-some (within (d *ℤ k.c)) (λ c. others_times d x ks >>= (λ rest. Some (record { x = k.x; c = c } ∷ rest))) others e in
    let b = bind-some (others_times d x ks) (λ rest. Some (record { x = k.x; c = a.0 } ∷ rest)) others a.2 in
    let w = within-some a.0 (d *ℤ k.c) a.1 in
    let same : others ≡ record { x = k.x; c = a.0 } ∷ b.0 = cc in
    (a.0, b.0, w.0, w.1, b.1, same)

others_times-each : (P Q : Coeff → Type 0) (d : ℤ) (x : ℕ) → ((k : Coeff) (c : ℤ) → P k → InRange c → Q (record { x = k.x; c = c })) → (ks others : List Coeff) → Some others ≡ others_times d x ks → Each P ks → Each Q others
others_times-each P Q d x f [] others e h = subst (λ (o : List Coeff). Each Q o) (let same : [] ≡ others = cc in same) tt
others_times-each P Q d x f (k ∷ ks) others e h = by (k.x == x) e (λ rest g. others_times-each P Q d x f ks rest g h.1)
  where
    by : (t : Bool) → Some others ≡ (if t then others_times d x ks else (within (d *ℤ k.c) >>= (λ c. others_times d x ks >>= (λ rest. Some (record { x = k.x; c = c } ∷ rest))))) → ((rest : List Coeff) → Some rest ≡ others_times d x ks → Each Q rest) → Each Q others
    by true e rest = rest others e
    by false e rest =
        let s = kept-some d x k ks others e in
        subst (λ (o : List Coeff). Each Q o) (sym s.5) (f k s.0 h.0 s.3, rest s.1 s.4)

pub others_times-range : (d : ℤ) (x : ℕ) (ks others : List Coeff) → Some others ≡ others_times d x ks → Each (λ k. InRange k.c) ks → Each (λ k. InRange k.c) others
others_times-range d x = others_times-each (λ k. InRange k.c) (λ k. InRange k.c) d x (λ k c _ r. r)

pub others_times-Ascends : (d : ℤ) (x : ℕ) (ks others : List Coeff) → Some others ≡ others_times d x ks → Ascends ks → Ascends others
others_times-Ascends d x [] others e a = subst (λ (o : List Coeff). Ascends o) (let same : [] ≡ others = cc in same) tt
others_times-Ascends d x (k ∷ ks) others e a = by (k.x == x) e (λ rest g. others_times-Ascends d x ks rest g a.1)
  where
    by : (t : Bool) → Some others ≡ (if t then others_times d x ks else (within (d *ℤ k.c) >>= (λ c. others_times d x ks >>= (λ rest. Some (record { x = k.x; c = c } ∷ rest))))) → ((rest : List Coeff) → Some rest ≡ others_times d x ks → Ascends rest) → Ascends others
    by true e rest = rest others e
    by false e rest =
        let s = kept-some d x k ks others e in
        subst (λ (o : List Coeff). Ascends o) (sym s.5) (others_times-each (λ j. k.x < j.x) (λ j. k.x < j.x) d x (λ j c h _. h) ks s.1 s.4 a.0, rest s.1 s.4)

pub coefficient-none : (x : ℕ) (ks : List Coeff) → Each (λ j. x < j.x) ks → coefficient x ks ≡ pos 0
coefficient-none x [] h = refl
coefficient-none x (k ∷ ks) h = by (k.x == x) refl (coefficient-none x ks h.1)
  where
    by : (t : Bool) → (k.x == x) ≡ t → coefficient x ks ≡ pos 0 → (if t then k.c else coefficient x ks) ≡ pos 0
    by true e rest = let same = eqb-true k.x x e in absurd (omega (arith, h.0))
    by false e rest = rest

-- the sum with z for x, and all other values times d
pub replaced-weighted : (m : ℕ → ℤ) (d z : ℤ) (x : ℕ) (ks others : List Coeff) → Ascends ks → Some others ≡ others_times d x ks → weighted (replaced (λ y. m y *ℤ d) x z) ks ≡ weighted m others +ℤ coefficient x ks *ℤ z
replaced-weighted m d z x [] others a e =
    let same : [] ≡ others = cc in
    sym (zero-*ℤ z) ∙ sym (+ℤ_idl (pos 0 *ℤ z)) ∙ ap (λ (o : List Coeff). weighted m o +ℤ pos 0 *ℤ z) same
replaced-weighted m d z x (k ∷ ks) others a e = by (k.x == x) refl e (λ rest g. replaced-weighted m d z x ks rest a.1 g)
  where
    v : ℕ → ℤ
    v = replaced (λ y. m y *ℤ d) x z

    by : (t : Bool) → (k.x == x) ≡ t → Some others ≡ (if t then others_times d x ks else (within (d *ℤ k.c) >>= (λ c. others_times d x ks >>= (λ rest. Some (record { x = k.x; c = c } ∷ rest))))) → ((rest : List Coeff) → Some rest ≡ others_times d x ks → weighted (replaced (λ y. m y *ℤ d) x z) ks ≡ weighted m rest +ℤ coefficient x ks *ℤ z) → k.c *ℤ (if t then z else m k.x *ℤ d) +ℤ weighted (replaced (λ y. m y *ℤ d) x z) ks ≡ weighted m others +ℤ (if t then k.c else coefficient x ks) *ℤ z
    by true t e rest =
        let none : coefficient x ks ≡ pos 0 = coefficient-none x ks (subst (λ y. Each (λ j. y < j.x) ks) (eqb-true k.x x t) a.0) in
        let all = rest others e ∙ ap (λ c. weighted m others +ℤ c *ℤ z) none ∙ ap (λ c. weighted m others +ℤ c) (zero-*ℤ z) ∙ +ℤ_idr (weighted m others) in
        ap (λ w. k.c *ℤ z +ℤ w) all ∙ +ℤ_comm (k.c *ℤ z) (weighted m others)
    by false t e rest =
        let s = kept-some d x k ks others e in
        let head : k.c *ℤ (m k.x *ℤ d) ≡ s.0 *ℤ m k.x = sym (*ℤ_assoc k.c (m k.x) d) ∙ *ℤ_right_comm k.c (m k.x) d ∙ ap (λ c. c *ℤ m k.x) (*ℤ_comm k.c d ∙ sym s.2) in
        (λ i. head i +ℤ rest s.1 s.4 i) ∙ sym (+ℤ_assoc (s.0 *ℤ m k.x) (weighted m s.1) (coefficient x ks *ℤ z)) ∙ ap (λ (o : List Coeff). weighted m o +ℤ coefficient x ks *ℤ z) (sym s.5)

put-sum : (w c0 cx n den d : ℤ) → w +ℤ (den *ℤ c0 +ℤ cx *ℤ n) *ℤ d ≡ (w +ℤ cx *ℤ (n *ℤ d)) +ℤ c0 *ℤ (d *ℤ den)
put-sum w c0 cx n den d =
    ap (λ y. w +ℤ y) (+ℤ-*ℤ (den *ℤ c0) (cx *ℤ n) d ∙ +ℤ_comm ((den *ℤ c0) *ℤ d) ((cx *ℤ n) *ℤ d) ∙ (λ i. *ℤ_assoc cx n d i +ℤ (ap (λ y. y *ℤ d) (*ℤ_comm den c0) ∙ *ℤ_assoc c0 den d ∙ ap (λ y. c0 *ℤ y) (*ℤ_comm den d)) i)) ∙ sym (+ℤ_assoc w (cx *ℤ (n *ℤ d)) (c0 *ℤ (d *ℤ den)))

constant-some : (r : Linear) (x : ℕ) (q : Number) (c : ℤ) → Some c ≡ put_constant r x q → c ≡ q.den *ℤ r.constant +ℤ coefficient x r.coeffs *ℤ q.num
constant-some r x q c e =
    let left = q.den *ℤ r.constant in
    let right = coefficient x r.coeffs *ℤ q.num in
    let a = bind-some (within left) (λ l. within right >>= (λ r. within (l +ℤ r))) c e in
    let b = bind-some (within right) (λ r. within (a.0 +ℤ r)) c a.2 in
    (within-some c (a.0 +ℤ b.0) b.2).0 ∙ (λ i. (within-some a.0 left a.1).0 i +ℤ (within-some b.0 right b.1).0 i)

pub put_of-meets : (r row : Linear) (x : ℕ) (q : Number) → Ascends r.coeffs → Some row ≡ put_of r x q → (m : ℕ → ℤ) (d : ℤ) → Meets m d row ↔ Meets (replaced (λ y. m y *ℤ q.den) x (q.num *ℤ d)) (d *ℤ q.den) r
unfolding put_of
put_of-meets r row x q asc e m d =
    let a = bind-some (others_times q.den x r.coeffs) (λ others. put_constant r x q >>= (λ c. Some (normal_form (record { coeffs = others; constant = c; op = r.op })))) row e in
    let b = bind-some (put_constant r x q) (λ c. Some (normal_form (record { coeffs = a.0; constant = c; op = r.op }))) row a.2 in
    let made : row ≡ normal_form (record { coeffs = a.0; constant = b.0; op = r.op }) = cc in
    let sum : weighted m a.0 +ℤ b.0 *ℤ d ≡ weighted (replaced (λ y. m y *ℤ q.den) x (q.num *ℤ d)) r.coeffs +ℤ r.constant *ℤ (d *ℤ q.den) =
    ap (λ c. weighted m a.0 +ℤ c *ℤ d) (constant-some r x q b.0 b.1) ∙ put-sum (weighted m a.0) r.constant (coefficient x r.coeffs) q.num q.den d ∙ ap (λ w. w +ℤ r.constant *ℤ (d *ℤ q.den)) (sym (replaced-weighted m q.den (q.num *ℤ d) x r.coeffs a.0 asc a.1)) in
    subst (λ z. Meets m d row ↔ Compares r.op z) sum (normal_form-meets_of (record { coeffs = a.0; constant = b.0; op = r.op }) row made m d)
