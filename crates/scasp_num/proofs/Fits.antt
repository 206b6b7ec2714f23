-- Where rows are made: the integers whose range decides it.
use Rattle.std.proofs.Common.{◌≡◌, ◌≢◌, ◌↔◌, ℕ, ◌≤◌, ◌<◌, ◌^◌, Bool, true, false, not, ◌&&◌, ◌==◌, nat_lt, cond, IsTrue, ℤ, pos, ◌+ℤ◌, ◌*ℤ◌, ◌<ℤ◌, unsigned_abs, Option, Some, None, List, [], ◌∷◌, map, refl, sym, ap, subst, ◌∙◌, arith}
use Rattle.std.specs.Prelude.{if◌then◌else◌, is_some, IsSomeAnd, filter}
use Rattle.std.specs.List.{list_all}
use Rattle.std.proofs.Math.Bool.{and_comm}
use Rattle.std.proofs.Math.IntN.{+ℤ_comm}
use Rattle.std.proofs.lemmas.Bool.{and_from, eqb-true}
use Rattle.std.proofs.lemmas.Int.{ints}
use Rattle.std.proofs.lemmas.List.Folds.{list_all-append}
use Rattle.std.proofs.lemmas.Nat.Gcd.{le_of_dvd}
use Rattle.scasp_list.specs.Each.{Each}
use Rattle.scasp_list.proofs.EachLemmas.{Each-map}
use Rattle.scasp_num.specs.declared.linear.Coeff.{Coeff}
use Rattle.scasp_num.specs.declared.linear.Op.{Op}
use Rattle.scasp_num.specs.declared.linear.RatPair.{RatPair}
use Rattle.scasp_num.specs.Number.{Number, InRange}
use Rattle.scasp_num.specs.Arithmetic.{◌>>=◌, in_range, within, sum_of, sum_integers}
use Rattle.scasp_num.specs.Linear.{Linear, Ascends, IsNormal, normal_form, coefficient, others_times, put_constant, put_of, put_integers, merged, join_of}
use Rattle.scasp_num.specs.Sums.{added, summed, multiple, next_multiple, common_multiple, whole, whole_times, whole_number, normal_of, normal_integers, addition_integers}
use Rattle.scasp_num.proofs.Gcds.{gcd-is}
use Rattle.scasp_num.proofs.Numbers.{ltb_lt, lt_ltb, over-pos, times-pos}
use Rattle.scasp_num.proofs.Exact.{within-and, sum_of-fits}
use Rattle.scasp_num.proofs.Puts.{kept-some, coefficient-none, others_times-Ascends, others_times-range}
use Rattle.scasp_num.proofs.Joins.{later, coefficient-range}
use Rattle.scasp_num.proofs.Wholes.{multiple-step}

-- ---- one step after another

bind-and : {A B : Type 0} (o : Option A) (f : A → Option B) (rest : Bool) → ((x : A) → is_some (f x) ≡ rest) → is_some (o >>= f) ≡ (is_some o && rest)
bind-and None f rest h = refl
bind-and (Some x) f rest h = h x

bind-same : {A B : Type 0} (o : Option A) (f : A → B) → is_some (o >>= (λ x. Some (f x))) ≡ is_some o
bind-same None f = refl
bind-same (Some x) f = refl

within-some_if : (z : ℤ) → is_some (within z) ≡ in_range z
within-some_if z = by (in_range z)
  where
    by : (t : Bool) → is_some (if t then Some z else None) ≡ t
    by true = refl
    by false = refl

-- ---- a number for a variable

others_times-fits : (d : ℤ) (x : ℕ) (ks : List Coeff) → is_some (others_times d x ks) ≡ list_all in_range (map (λ k. d *ℤ k.c) (filter (λ k. not (k.x == x)) ks))
others_times-fits d x [] = refl
others_times-fits d x (k ∷ ks) = by (k.x == x) (others_times-fits d x ks)
  where
    by : (t : Bool) → is_some (others_times d x ks) ≡ list_all in_range (map (λ (k : Coeff). d *ℤ k.c) (filter (λ (k : Coeff). not (k.x == x)) ks)) → is_some (if t then others_times d x ks else (within (d *ℤ k.c) >>= (λ c. others_times d x ks >>= (λ rest. Some (record { x = k.x; c = c } ∷ rest))))) ≡ list_all in_range (map (λ (k : Coeff). d *ℤ k.c) (cond (not t) (k ∷ filter (λ (k : Coeff). not (k.x == x)) ks) (filter (λ (k : Coeff). not (k.x == x)) ks)))
    by true rest = rest
    by false rest =
        within-and (d *ℤ k.c) (λ c. others_times d x ks >>= (λ rest. Some (record { x = k.x; c = c } ∷ rest))) (list_all in_range (map (λ (k : Coeff). d *ℤ k.c) (filter (λ (k : Coeff). not (k.x == x)) ks)))
        (λ _. bind-same (others_times d x ks) (λ rest. record { x = k.x; c = d *ℤ k.c } ∷ rest) ∙ rest)

put_constant-fits : (r : Linear) (x : ℕ) (q : Number) → is_some (put_constant r x q) ≡ list_all in_range ((q.den *ℤ r.constant) ∷ (coefficient x r.coeffs *ℤ q.num) ∷ (q.den *ℤ r.constant +ℤ coefficient x r.coeffs *ℤ q.num) ∷ [])
put_constant-fits r x q =
    let left = q.den *ℤ r.constant in
    let right = coefficient x r.coeffs *ℤ q.num in
    within-and left (λ l. within right >>= (λ k. within (l +ℤ k))) (in_range right && (in_range (left +ℤ right) && true))
    (λ _. within-and right (λ k. within (left +ℤ k)) (in_range (left +ℤ right) && true) (λ _. within-some_if (left +ℤ right) ∙ and_comm true (in_range (left +ℤ right))))

pub put_fits : (r : Linear) (x : ℕ) (q : Number) → is_some (put_of r x q) ≡ list_all in_range (put_integers r x q)
unfolding put_of
put_fits r x q =
    let made = λ (coeffs : List Coeff) (constant : ℤ). normal_form (record { coeffs = coeffs; constant = constant; op = r.op }) in
    let others = map (λ (k : Coeff). q.den *ℤ k.c) (filter (λ (k : Coeff). not (k.x == x)) r.coeffs) in
    let left = q.den *ℤ r.constant in
    let right = coefficient x r.coeffs *ℤ q.num in
    let last = left ∷ right ∷ (left +ℤ right) ∷ [] in
    bind-and (others_times q.den x r.coeffs) (λ coeffs. put_constant r x q >>= (λ constant. Some (made coeffs constant))) (is_some (put_constant r x q)) (λ coeffs. bind-same (put_constant r x q) (made coeffs))
    ∙ (λ i. others_times-fits q.den x r.coeffs i && put_constant-fits r x q i) ∙ sym (list_all-append in_range others last)

-- ---- a variable for a variable

one-times : (z : ℤ) → pos 1 *ℤ z ≡ z
one-times z = omega (arith, ints)

others_times-some : (x : ℕ) (ks : List Coeff) → Each (λ k. InRange k.c) ks → (others : List Coeff) × (Some others ≡ others_times (pos 1) x ks)
others_times-some x ks h = by (others_times (pos 1) x ks) (others_times-fits (pos 1) x ks ∙ all ks h)
  where
    all : (ks : List Coeff) → Each (λ k. InRange k.c) ks → list_all in_range (map (λ k. pos 1 *ℤ k.c) (filter (λ k. not (k.x == x)) ks)) ≡ true
    all [] h = refl
    all (k ∷ ks) h = one (not (k.x == x)) (ap in_range (one-times k.c) ∙ lt_ltb h.0) (all ks h.1)
      where
        one : (t : Bool) → in_range (pos 1 *ℤ k.c) ≡ true → list_all in_range (map (λ k. pos 1 *ℤ k.c) (filter (λ (k : Coeff). not (k.x == x)) ks)) ≡ true → list_all in_range (map (λ (k : Coeff). pos 1 *ℤ k.c) (cond t (k ∷ filter (λ (k : Coeff). not (k.x == x)) ks) (filter (λ (k : Coeff). not (k.x == x)) ks))) ≡ true
        one true e f = and_from (in_range (pos 1 *ℤ k.c)) _ e f
        one false e f = f

    by : (o : Option (List Coeff)) → is_some o ≡ true → (others : List Coeff) × (Some others ≡ o)
    by None e = cc
    by (Some others) e = (others, refl)

others_times-coefficient : (x y : ℕ) → x ≢ y → (ks others : List Coeff) → Some others ≡ others_times (pos 1) x ks → coefficient y others ≡ coefficient y ks
others_times-coefficient x y n [] others e = ap (coefficient y) (let same : others ≡ [] = cc in same)
others_times-coefficient x y n (k ∷ ks) others e = by (k.x == x) refl e (λ rest g. others_times-coefficient x y n ks rest g)
  where
    other : k.x ≡ x → (t : Bool) → (k.x == y) ≡ t → coefficient y ks ≡ (if t then k.c else coefficient y ks)
    other e true f = absurd (n (sym e ∙ eqb-true k.x y f))
    other e false f = refl

    by : (t : Bool) → (k.x == x) ≡ t → Some others ≡ (if t then others_times (pos 1) x ks else (within (pos 1 *ℤ k.c) >>= (λ c. others_times (pos 1) x ks >>= (λ rest. Some (record { x = k.x; c = c } ∷ rest))))) → ((rest : List Coeff) → Some rest ≡ others_times (pos 1) x ks → coefficient y rest ≡ coefficient y ks) → coefficient y others ≡ coefficient y (k ∷ ks)
    by true t e rest = rest others e ∙ other (eqb-true k.x x t) (k.x == y) refl
    by false t e rest =
        let s = kept-some (pos 1) x k ks others e in
        ap (coefficient y) s.5 ∙ (λ i. if k.x == y then (s.2 ∙ one-times k.c) i else rest s.1 s.4 i)

merged-fits : (y : ℕ) (c : ℤ) → in_range c ≡ true → (ks : List Coeff) → Ascends ks → Each (λ k. InRange k.c) ks → is_some (merged y c ks) ≡ in_range (coefficient y ks +ℤ c)
merged-fits y c h [] a f = sym h ∙ ap in_range (let same : c ≡ pos 0 +ℤ c = omega (arith, ints) in same)
merged-fits y c h (k ∷ ks) a f = by (nat_lt k.x y) refl (k.x == y) refl (merged-fits y c h ks a.1 f.1)
  where
    none : y < k.x → coefficient y ks ≡ pos 0
    none b = coefficient-none y ks (Each-map (λ j. k.x < j.x) (λ j. y < j.x) (λ j g. omega arith) ks a.0)

    by : (s : Bool) → nat_lt k.x y ≡ s → (t : Bool) → (k.x == y) ≡ t → is_some (merged y c ks) ≡ in_range (coefficient y ks +ℤ c) → is_some (if s then (merged y c ks >>= (λ rest. Some (k ∷ rest))) else (if t then (within (k.c +ℤ c) >>= (λ sum. Some (record { x = y; c = sum } ∷ ks))) else Some (record { x = y; c = c } ∷ k ∷ ks))) ≡ in_range ((if t then k.c else coefficient y ks) +ℤ c)
    by true s true t rest = let less = ltb_lt s in absurd (omega (arith, eqb-true k.x y t))
    by true s false t rest = bind-same (merged y c ks) (λ rest. k ∷ rest) ∙ rest
    by false s true t rest = bind-same (within (k.c +ℤ c)) (λ sum. record { x = y; c = sum } ∷ ks) ∙ within-some_if (k.c +ℤ c)
    by false s false t rest =
        sym h ∙ ap in_range (let same : c ≡ pos 0 +ℤ c = omega (arith, ints) in same) ∙ ap (λ z. in_range (z +ℤ c)) (sym (none (later k.x y s t)))

pub join_fits : (r : Linear) (x y : ℕ) → IsNormal r → x ≢ y → is_some (join_of r x y) ≡ in_range (coefficient x r.coeffs +ℤ coefficient y r.coeffs)
unfolding join_of
join_fits r x y n d =
    let made = λ (coeffs : List Coeff). normal_form (record { coeffs = coeffs; constant = r.constant; op = r.op }) in
    let c = coefficient x r.coeffs in
    let s = others_times-some x r.coeffs n.range in
    ap (λ (o : Option (List Coeff)). is_some (o >>= (λ others. merged y c others >>= (λ coeffs. Some (made coeffs))))) (sym s.1)
    ∙ bind-same (merged y c s.0) made
    ∙ merged-fits y c (lt_ltb (coefficient-range x r.coeffs n.range)) s.0 (others_times-Ascends (pos 1) x r.coeffs s.0 s.1 n.ascending) (others_times-range (pos 1) x r.coeffs s.0 s.1 n.range)
    ∙ ap in_range (ap (λ z. z +ℤ c) (others_times-coefficient x y d r.coeffs s.0 s.1) ∙ +ℤ_comm (coefficient y r.coeffs) c)

-- ---- pairs

pub addition_fits : (x : ℕ) (v : Number) (ks : List RatPair) → is_some (added x v ks) ≡ list_all in_range (addition_integers x v ks)
addition_fits x v [] = refl
addition_fits x v (k ∷ ks) = by (nat_lt k.x x) (k.x == x) (addition_fits x v ks)
  where
    by : (s t : Bool) → is_some (added x v ks) ≡ list_all in_range (addition_integers x v ks) → is_some (if s then (added x v ks >>= (λ rest. Some (k ∷ rest))) else (if t then (sum_of k.value v >>= (λ sum. Some (record { x = x; value = sum } ∷ ks))) else Some (record { x = x; value = v } ∷ k ∷ ks))) ≡ list_all in_range (if s then addition_integers x v ks else (if t then sum_integers k.value v else []))
    by true t rest = bind-same (added x v ks) (λ rest. k ∷ rest) ∙ rest
    by false true rest = bind-same (sum_of k.value v) (λ sum. record { x = x; value = sum } ∷ ks) ∙ sum_of-fits k.value v
    by false false rest = refl

whole-fits : (l : ℤ) (ks : List RatPair) → is_some (whole l ks) ≡ list_all in_range (map (λ k. whole_times l k.value) ks)
whole-fits l [] = refl
whole-fits l (k ∷ ks) =
    within-and (whole_times l k.value) (λ c. whole l ks >>= (λ rest. Some (record { x = k.x; c = c } ∷ rest))) (list_all in_range (map (λ k. whole_times l k.value) ks))
    (λ _. bind-same (whole l ks) (λ rest. record { x = k.x; c = whole_times l k.value } ∷ rest) ∙ whole-fits l ks)

next-pos : (l : ℤ) (q : Number) → pos 0 <ℤ l → pos 0 <ℤ next_multiple l q.den
next-pos l q h = times-pos l _ h (over-pos q.den _ q.reduced.positive (gcd-is (unsigned_abs l) (unsigned_abs q.den)).1)

size-above : (z : ℤ) → pos 0 <ℤ z → 0 < unsigned_abs z
size-above z h = omega (arith, ints)

-- multiples grow
common_multiple-above : (l : ℤ) (ks : List RatPair) → pos 0 <ℤ l → unsigned_abs l ≤ unsigned_abs (common_multiple l ks)
common_multiple-above l [] h = omega arith
common_multiple-above l (k ∷ ks) h =
    let above = next-pos l k.value h in
    let one : unsigned_abs l ≤ unsigned_abs (next_multiple l k.value.den) = le_of_dvd (size-above (next_multiple l k.value.den) above) (multiple-step l k.value.den).0 in
    let rest = common_multiple-above (next_multiple l k.value.den) ks above in
    omega arith

multiple-is_within : (l : ℤ) (ks : List RatPair) → pos 0 <ℤ l → in_range l ≡ true → multiple l ks ≡ within (common_multiple l ks)
multiple-is_within l [] h r = ap (λ t. if t then Some l else None) (sym r)
multiple-is_within l (k ∷ ks) h r =
    let above = next-pos l k.value h in
    by (next_multiple l k.value.den) above (in_range (next_multiple l k.value.den)) refl (multiple-is_within (next_multiple l k.value.den) ks above)
  where
    by : (n : ℤ) → pos 0 <ℤ n → (t : Bool) → in_range n ≡ t → (in_range n ≡ true → multiple n ks ≡ within (common_multiple n ks)) → ((if t then Some n else None) >>= (λ n. multiple n ks)) ≡ within (common_multiple n ks)
    by n p true e rest = rest e
    by n p false e rest = sym (too-large n p e (in_range (common_multiple n ks)) refl)
      where
        too-large : (n : ℤ) → pos 0 <ℤ n → in_range n ≡ false → (t : Bool) → in_range (common_multiple n ks) ≡ t → (if t then Some (common_multiple n ks) else None) ≡ None
        too-large n p e false f = refl
        too-large n p e true f =
            let below : unsigned_abs (common_multiple n ks) < 2 ^ 127 = ltb_lt f in
            let grown = common_multiple-above n ks p in
            let small : unsigned_abs n < 2 ^ 127 = omega arith in
            let yes : in_range n ≡ true = lt_ltb small in
            cc

pub normal_fits : (pairs : List RatPair) (q : Number) (op : Op) → InRange q.den → IsTrue (is_some (normal_of pairs q op)) ↔ IsSomeAnd (summed [] pairs) (λ sums. IsTrue (list_all in_range (normal_integers sums q)))
unfolding normal_of
normal_fits pairs q op range = by (summed [] pairs)
  where
    all : (sums : List RatPair) → is_some (multiple q.den sums >>= (λ l. whole l sums >>= (λ cs. whole_number l q >>= (λ c. Some (normal_form (record { coeffs = cs; constant = c; op = op })))))) ≡ list_all in_range (normal_integers sums q)
    all sums =
        let l = common_multiple q.den sums in
        let made = λ (cs : List Coeff) (c : ℤ). normal_form (record { coeffs = cs; constant = c; op = op }) in
        let rest = λ (l : ℤ). whole l sums >>= (λ cs. whole_number l q >>= (λ c. Some (made cs c))) in
        ap (λ o. is_some (o >>= rest)) (multiple-is_within q.den sums q.reduced.positive (lt_ltb range))
        ∙ within-and l rest (in_range (whole_times l q) && list_all in_range (map (λ k. whole_times l k.value) sums))
        (λ _. bind-and (whole l sums) (λ cs. whole_number l q >>= (λ c. Some (made cs c))) (in_range (whole_times l q)) (λ cs. bind-same (whole_number l q) (made cs) ∙ within-some_if (whole_times l q))
        ∙ ap (λ t. t && in_range (whole_times l q)) (whole-fits l sums) ∙ and_comm (list_all in_range (map (λ k. whole_times l k.value) sums)) (in_range (whole_times l q)))

    by : (o : Option (List RatPair)) → IsTrue (is_some (o >>= (λ sums. multiple q.den sums >>= (λ l. whole l sums >>= (λ cs. whole_number l q >>= (λ c. Some (normal_form (record { coeffs = cs; constant = c; op = op })))))))) ↔ IsSomeAnd o (λ sums. IsTrue (list_all in_range (normal_integers sums q)))
    by None = (λ h. cc, λ h. absurd h)
    by (Some sums) = (λ h. subst IsTrue (all sums) h, λ h. subst IsTrue (sym (all sums)) h)
