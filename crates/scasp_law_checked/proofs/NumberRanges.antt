-- The numbers that bounded arithmetic gives are of integers from -M to M, and so are those of the point of a sample.
use Rattle.std.specs.Prelude.{◌≡◌, ℕ, ◌/◌, ◌==◌, Bool, true, false, if◌then◌else◌, ℤ, pos, ◌+ℤ◌, ◌*ℤ◌, neg_ℤ, unsigned_abs, int_div, List, [], ◌∷◌, Option, None, Some, Result, Ok, Err, ⊤}
use Rattle.std.proofs.Common.{refl, subst, sym}
use Rattle.std.proofs.lemmas.Bool.{and_from}
use Rattle.scasp_law_program_text.specs.CompoundReadback.Fitting.{number_fits}
use Rattle.scasp_list.specs.Each.{Each}
use Rattle.scasp_num.specs.Arithmetic.{◌>>=◌, difference_of, in_range, lowest, negation_of, number, product_of, quotient_of, signed, signs_differ, sum_of, within}
use Rattle.scasp_num.specs.Gcd.{gcd}
use Rattle.scasp_num.specs.Linear.{Linear, coefficient}
use Rattle.scasp_num.specs.Number.{InRange, Number}
use Rattle.scasp_num.specs.declared.linear.RatPair.{RatPair}
use Rattle.scasp_num.proofs.Exact.{bind-some}
use Rattle.scasp_num.proofs.Numbers.{lt_ltb, number-parts, within-some}
use Rattle.scasp_rows.specs.Elimination.{all_looked, and_then, factor, first_equation, has_sign, variables, without}
use Rattle.scasp_rows.specs.Samples.{between, bound, bound_with, by_solution, found, if_some, is_less, middle, over, point_of, sample_of, solution_of, sum_with, tighter, value_for, value_in, values_from, with_all, with_value_for}
use Rattle.scasp_rows.specs.Steps.{whole}
use Rattle.scasp_rows.specs.declared.state.Halt.{Halt}
use Rattle.scasp_rows.specs.declared.state.Halt.TheVariants as halt
use Rattle.scasp_rows.specs.declared.state.Sign.{Sign}
use Rattle.scasp_rows.specs.declared.state.Sign.TheVariants as sign
use Rattle.scasp_rows.specs.declared.state.Standing.{Standing}
use Rattle.scasp_rows.specs.declared.state.State.{State}
use Rattle.scasp_rows.proofs.Pointing.{then-ok}

abbrev pub Fits : Number → Type 0
Fits q = number_fits q ≡ true

-- ---- arithmetic

number-fits : (n d : ℤ) (q : Number) → InRange n → InRange d → Some q ≡ number n d → Fits q
number-fits n d q h k e =
    let p = number-parts q n d e in
    and_from (in_range q.num) (in_range q.den) (lt_ltb (subst InRange (sym p.0) h)) (lt_ltb (subst InRange (sym p.1) k))

lowest-in : (q : Number) (n d : ℤ) → Some q ≡ lowest n d → Fits q
unfolding lowest
lowest-in q n d e =
    let g = gcd (unsigned_abs n) (unsigned_abs d) in
    let a = bind-some (within (signed (signs_differ n d) (unsigned_abs n / g))) (λ num. within (pos (unsigned_abs d / g)) >>= number num) q e in
    let b = bind-some (within (pos (unsigned_abs d / g))) (number a.0) q a.2 in
    number-fits a.0 b.0 q (within-some a.0 (signed (signs_differ n d) (unsigned_abs n / g)) a.1).1 (within-some b.0 (pos (unsigned_abs d / g)) b.1).1 b.2

sum-in : (p q r : Number) → Some r ≡ sum_of p q → Fits r
unfolding sum_of
sum-in p q r e =
    let g = pos (gcd (unsigned_abs p.den) (unsigned_abs q.den)) in
    let x = int_div q.den g in
    let y = int_div p.den g in
    let a = bind-some (within (p.num *ℤ x)) (λ left. within (q.num *ℤ y) >>= (λ right. within (left +ℤ right) >>= (λ num. within (p.den *ℤ x) >>= (λ den. lowest num den)))) r e in
    let b = bind-some (within (q.num *ℤ y)) (λ right. within (a.0 +ℤ right) >>= (λ num. within (p.den *ℤ x) >>= (λ den. lowest num den))) r a.2 in
    let c = bind-some (within (a.0 +ℤ b.0)) (λ num. within (p.den *ℤ x) >>= (λ den. lowest num den)) r b.2 in
    let d = bind-some (within (p.den *ℤ x)) (λ den. lowest c.0 den) r c.2 in
    lowest-in r c.0 d.0 d.2

difference-in : (p q r : Number) → Some r ≡ difference_of p q → Fits r
unfolding difference_of
difference-in p q r e = sum-in p (negation_of q) r e

product-in : (p q r : Number) → Some r ≡ product_of p q → Fits r
unfolding product_of
product-in p q r e =
    let g = pos (gcd (unsigned_abs p.num) (unsigned_abs q.den)) in
    let h = pos (gcd (unsigned_abs q.num) (unsigned_abs p.den)) in
    let n = int_div p.num g *ℤ int_div q.num h in
    let d = int_div p.den h *ℤ int_div q.den g in
    let a = bind-some (within n) (λ num. within d >>= number num) r e in
    let b = bind-some (within d) (number a.0) r a.2 in
    number-fits a.0 b.0 r (within-some a.0 n a.1).1 (within-some b.0 d b.1).1 b.2

quotient-in : (p q r : Number) → Some r ≡ quotient_of p q → Fits r
unfolding quotient_of
quotient-in p q r e = let a = bind-some (lowest q.den q.num) (product_of p) r e in product-in p a.0 r a.2

over-in : (p : Number) (c : ℤ) (r : Number) → Some r ≡ over p c → Fits r
over-in p c r e = let a = bind-some (whole c) (quotient_of p) r e in quotient-in p a.0 r a.2

-- ---- the value of a variable

solution-in : (x : ℕ) (point : List RatPair) (r : Linear) (q : Number) → Some q ≡ solution_of x point r → Fits q
unfolding solution_of
solution-in x point r q e =
    let a = bind-some (whole r.constant) (λ constant. sum_with x point r.coeffs constant >>= (λ sum. over sum (neg_ℤ (coefficient x r.coeffs)))) q e in
    let b = bind-some (sum_with x point r.coeffs a.0) (λ sum. over sum (neg_ℤ (coefficient x r.coeffs))) q a.2 in
    over-in b.0 (neg_ℤ (coefficient x r.coeffs)) q b.2

abbrev BestFits : Option Number → Type 0
BestFits None = ⊤
BestFits (Some q) = Fits q

tighter-in : (t : Sign) (best : Option Number) (q : Number) → BestFits best → Fits q → Fits (tighter t best q)
tighter-in t None q h k = k
tighter-in sign.Below (Some p) q h k = by (is_less p q)
  where
    by : (b : Bool) → Fits (if b then q else p)
    by true = k
    by false = h
tighter-in sign.Zero (Some p) q h k = h
tighter-in sign.Above (Some p) q h k = by (is_less q p)
  where
    by : (b : Bool) → Fits (if b then q else p)
    by true = k
    by false = h

one-bound : (t : Sign) (x : ℕ) (point : List RatPair) (r : Standing) (best next : Option Number) → BestFits best → Some next ≡ bound_with t x point r best → BestFits next
one-bound t x point r best next h e = by (has_sign t (factor x r)) e
  where
    by : (b : Bool) → Some next ≡ (if b then (solution_of x point r.row >>= (λ q. Some (Some (tighter t best q)))) else Some best) → BestFits next
    by true f =
        let a = bind-some (solution_of x point r.row) (λ q. Some (Some (tighter t best q))) next f in
        let same : Some (tighter t best a.0) ≡ next = sym (cc a.2) in
        subst BestFits same (tighter-in t best a.0 h (solution-in x point r.row a.0 a.1))
    by false f = let same : best ≡ next = cc f in subst BestFits same h

bound-in : (t : Sign) (x : ℕ) (point : List RatPair) (rows : List Standing) (best last : Option Number) → BestFits best → Some last ≡ bound t x point rows best → BestFits last
bound-in t x point [] best last h e = let same : best ≡ last = cc e in subst BestFits same h
bound-in t x point (r ∷ rows) best last h e =
    let a = bind-some (bound_with t x point r best) (λ next. bound t x point rows next) last e in
    bound-in t x point rows a.0 last (one-bound t x point r best a.0 h a.1) a.2

between-in : (lo hi : Option Number) (q : Number) → BestFits lo → BestFits hi → Some q ≡ between lo hi → Fits q
between-in None None q h k e = lowest-in q (pos 0) (pos 1) e
between-in (Some lo) None q h k e = let a = bind-some (whole (pos 1)) (λ one. sum_of lo one) q e in sum-in lo a.0 q a.2
between-in None (Some hi) q h k e = let a = bind-some (whole (pos 1)) (λ one. difference_of hi one) q e in difference-in hi a.0 q a.2
between-in (Some lo) (Some hi) q h k e = by (is_less lo hi) e
  where
    by : (b : Bool) → Some q ≡ (if b then middle lo hi else Some lo) → Fits q
    by true f = let a = bind-some (sum_of lo hi) (λ sum. over sum (pos 2)) q f in over-in a.0 (pos 2) q a.2
    by false f = let same : lo ≡ q = cc f in subst Fits same h

value-in : (x : ℕ) (rows : List Standing) (point : List RatPair) (q : Number) → Some q ≡ value_for x rows point → Fits q
value-in x rows point q e = by (first_equation x rows) e
  where
    by : (o : Option Standing) → Some q ≡ by_solution x point rows o → Fits q
    by (Some p) f = solution-in x point p.row q f
    by None f =
        let a = bind-some (bound sign.Below x point rows None) (λ lo. bound sign.Above x point rows None >>= (λ hi. between lo hi)) q f in
        let b = bind-some (bound sign.Above x point rows None) (λ hi. between a.0 hi) q a.2 in
        between-in a.0 b.0 q (bound-in sign.Below x point rows None a.0 tt a.1) (bound-in sign.Above x point rows None b.0 tt b.1) b.2

-- ---- points

abbrev pub PairFits : RatPair → Type 0
PairFits p = Fits p.value

with-value-in : (x : ℕ) (point more : List RatPair) (o : Option Number) → ((q : Number) → Some q ≡ o → Fits q) → Each PairFits point → with_value_for x point o ≡ Ok more → Each PairFits more
with-value-in x point more None h k e = absurd (cc e)
with-value-in x point more (Some q) h k e = let same : record { x = x; value = q } ∷ point ≡ more = cc e in subst (Each PairFits) same (h q refl, k)

values-in : (xs : List ℕ) (s : State) (point : List RatPair) → values_from xs s ≡ Ok point → Each PairFits point
values-in [] s point e = let same : [] ≡ point = cc e in subst (Each PairFits) same tt
values-in (x ∷ xs) s point e =
    let a = then-ok (without x s) (λ t. and_then (values_from xs t) (λ point. with_value_for x point (value_for x s.standing point))) point e in
    let b = then-ok (values_from xs a.0) (λ point. with_value_for x point (value_for x s.standing point)) point a.2 in
    with-value-in x b.0 point (value_for x s.standing b.0) (λ q f. value-in x s.standing b.0 q f) (values-in xs a.0 b.0 b.1) b.2

point-in : (rows : List Linear) (point : List RatPair) → point_of rows ≡ Ok point → Each PairFits point
unfolding point_of
point-in rows point e = let a = then-ok (all_looked 1 rows _) (values_from (variables [] rows)) point e in values-in (variables [] rows) a.0 point a.2

found-in : (o : Result (List RatPair) Halt) (point : List RatPair) → ((p : List RatPair) → o ≡ Ok p → Each PairFits p) → found o ≡ Ok (Some point) → Each PairFits point
found-in (Ok p) point h e = let same : p ≡ point = cc e in subst (Each PairFits) same (h p refl)
found-in (Err (halt.Unsat steps)) point h e = absurd (cc e)
found-in (Err halt.Overflow) point h e = absurd (cc e)
found-in (Err halt.Memory) point h e = absurd (cc e)

pub sample-in : (rows : List Linear) (differ : List (List Linear)) (point : List RatPair) → sample_of rows differ ≡ Ok (Some point) → Each PairFits point
unfolding sample_of
sample-in rows differ point e =
    let a = then-ok (with_all rows differ) (λ o. if_some o (λ more. found (point_of more))) (Some point) e in by a.0 a.2
  where
    by : (o : Option (List Linear)) → if_some o (λ more. found (point_of more)) ≡ Ok (Some point) → Each PairFits point
    by None f = absurd (cc f)
    by (Some more) f = found-in (point_of more) point (λ p g. point-in more p g) f

pub value-fits : (point : List RatPair) (y : ℕ) → Each PairFits point → Fits (value_in point y)
value-fits [] y h = refl
value-fits (p ∷ point) y h = by (p.x == y) (value-fits point y h.1)
  where
    by : (b : Bool) → Fits (value_in point y) → Fits (if b then p.value else value_in point y)
    by true k = h.0
    by false k = k
