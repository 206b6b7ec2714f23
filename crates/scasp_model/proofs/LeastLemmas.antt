-- The least model of rules without `not`: enough rounds, closed, and within each closed list.
use Rattle.std.proofs.Common.{◌≡◌, ◌∷◌, ◌++◌, ◌∙◌, ◌⊎◌, ℕ, zero, suc, ◌+◌, ◌-◌, ◌<◌, ◌≤◌, Bool, true, false, ◌&&◌, not, cond, List, [], length, refl, ap, sym, subst, inl, inr, arith, add-zero, add-suc, length-append}
use Rattle.std.specs.List.{list_all}
use Rattle.std.proofs.lemmas.Bool.{true≢false, false≢true, and_parts, and_from, and_cases, or_left, or_right, not-true, not-false, cond-true, cond-false, cond_both, cases_Bool}
use Rattle.scasp_syntax.specs.Same.{same_atom}
use Rattle.scasp_syntax.specs.declared.atom.Atom.{Atom}
use Rattle.scasp_model.specs.Atoms.{among, has_all, are_distinct}
use Rattle.scasp_model.specs.Least.{with_head, with_heads, round, rounds, least_model, is_closed}
use Rattle.scasp_model.specs.declared.program.DefiniteRule.{DefiniteRule}
use Rattle.scasp_model.proofs.AtomLemmas.{among-append, has_all-append, same_atom-self, has_all_trans, are_distinct-push}

-- the test of `with_head`
abbrev adds : List Atom → List Atom → DefiniteRule → Bool
adds present got r = has_all present r.body && not (among got r.head)

-- a fact about the atoms after a rule
by_cases : (present got : List Atom) (r : DefiniteRule) (P : List Atom → Type 0) → (adds present got r ≡ true → P (got ++ r.head ∷ [])) → (adds present got r ≡ false → P got) → P (with_head present got r)
by_cases present got r P f g = cond_both (adds present got r) (got ++ r.head ∷ []) got P f g

with_head-grows : (present got : List Atom) (r : DefiniteRule) (a : Atom) → among got a ≡ true → among (with_head present got r) a ≡ true
with_head-grows present got r a h =
    by_cases present got r (λ z. among z a ≡ true)
    (λ e. among-append got (r.head ∷ []) a ∙ or_left (among got a) (among (r.head ∷ []) a) h)
    (λ e. h)

with_heads-grows : (present got : List Atom) (rs : List DefiniteRule) (a : Atom) → among got a ≡ true → among (with_heads present got rs) a ≡ true
with_heads-grows present got [] a h = h
with_heads-grows present got (r ∷ rs) a h =
    with_heads-grows present (with_head present got r) rs a (with_head-grows present got r a h)

with_head-has : (present got : List Atom) (r : DefiniteRule) → has_all present r.body ≡ true → among (with_head present got r) r.head ≡ true
with_head-has present got r b =
    by_cases present got r (λ z. among z r.head ≡ true)
    (λ e. among-append got (r.head ∷ []) r.head ∙ or_right (among got r.head) (among (r.head ∷ []) r.head) (or_left (same_atom r.head r.head) false (same_atom-self r.head)))
    (λ e. elim (and_cases (has_all present r.body) (not (among got r.head)) e) [
      | inl f ↦ absurd (true≢false (sym b ∙ f))
      | inr f ↦ not-false (among got r.head) f
    ])

-- where the body is present, the head is got
abbrev gives : List Atom → List Atom → DefiniteRule → Bool
gives present got r = cond (has_all present r.body) (among got r.head) true

with_heads-has : (present got : List Atom) (rs : List DefiniteRule) → list_all (gives present (with_heads present got rs)) rs ≡ true
with_heads-has present got [] = refl
with_heads-has present got (r ∷ rs) =
    let all : List Atom = with_heads present (with_head present got r) rs in
    and_from (gives present all r) (list_all (gives present all) rs)
    (cond_both (has_all present r.body) (among all r.head) true (λ z. z ≡ true)
    (λ b. with_heads-grows present (with_head present got r) rs r.head (with_head-has present got r b))
    (λ b. refl))
    (with_heads-has present (with_head present got r) rs)

is_closed_from_fixed : (rs : List DefiniteRule) (atoms : List Atom) → round rs atoms ≡ atoms → is_closed rs atoms ≡ true
is_closed_from_fixed rs atoms e =
    let P : List Atom → Type 0 = λ z. list_all (gives atoms z) rs ≡ true in subst P e (with_heads-has atoms atoms rs)

-- the number of rules whose head is missing
abbrev missing : List Atom → List DefiniteRule → ℕ
missing atoms [] = 0
missing atoms (r ∷ rs) = cond (among atoms r.head) 0 1 + missing atoms rs

missing-below : (atoms : List Atom) (rs : List DefiniteRule) → missing atoms rs ≤ length rs
missing-below atoms [] = omega arith
missing-below atoms (r ∷ rs) =
    let h : missing atoms rs ≤ length rs = missing-below atoms rs in
    cond_both (among atoms r.head) 0 1 (λ k. k + missing atoms rs ≤ length (r ∷ rs)) (λ e. omega (arith, h)) (λ e. omega (arith, h))

one_less : (b c : Bool) (m n : ℕ) → (b ≡ true → c ≡ true) → n ≤ m → cond c 0 1 + n ≤ cond b 0 1 + m
one_less true true m n f h = omega (arith, h)
one_less true false m n f h = absurd (false≢true (f refl))
one_less false true m n f h = omega (arith, h)
one_less false false m n f h = omega (arith, h)

missing-falls : (xs ys : List Atom) (rs : List DefiniteRule) → ((a : Atom) → among xs a ≡ true → among ys a ≡ true) → missing ys rs ≤ missing xs rs
missing-falls xs ys [] f = omega arith
missing-falls xs ys (r ∷ rs) f =
    one_less (among xs r.head) (among ys r.head) (missing xs rs) (missing ys rs) (f r.head) (missing-falls xs ys rs f)

falls_here : (b c : Bool) (m n : ℕ) → b ≡ false → c ≡ true → n ≤ m → cond c 0 1 + n + 1 ≤ cond b 0 1 + m
falls_here b c m n p q h = rw (p, q) (omega (arith, h))

falls_below : (b c : Bool) (m n : ℕ) → (b ≡ true → c ≡ true) → n + 1 ≤ m → cond c 0 1 + n + 1 ≤ cond b 0 1 + m
falls_below b c m n f h = let k : cond c 0 1 + (n + 1) ≤ cond b 0 1 + m = one_less b c m (n + 1) f h in omega (arith, k)

-- a round changes nothing, or fewer heads are missing
fixed_or_falls : (present got : List Atom) (rs : List DefiniteRule) → (with_heads present got rs ≡ got) ⊎ (missing (with_heads present got rs) rs + 1 ≤ missing got rs)
fixed_or_falls present got [] = inl refl
fixed_or_falls present got (r ∷ rs) =
    let all : List Atom = with_heads present (with_head present got r) rs in
    let grows : (a : Atom) → among got a ≡ true → among all a ≡ true = with_heads-grows present got (r ∷ rs) in
    elim (cases_Bool (adds present got r)) [
      | inl e ↦
          (let p = and_parts (has_all present r.body) (not (among got r.head)) e in
          let has : among all r.head ≡ true =
          with_heads-grows present (with_head present got r) rs r.head (with_head-has present got r p.0) in
          inr (falls_here (among got r.head) (among all r.head) (missing got rs) (missing all rs)
          (not-true (among got r.head) p.1) has (missing-falls got all rs grows)))
      | inr e ↦
          (let same : with_head present got r ≡ got = cond-false (adds present got r) (got ++ r.head ∷ []) got e in
          elim (fixed_or_falls present (with_head present got r) rs) [
            | inl k ↦ inl (k ∙ same)
            | inr k ↦ inr (falls_below (among got r.head) (among all r.head) (missing got rs) (missing all rs) (grows r.head)
                (subst (λ (z : List Atom). missing all rs + 1 ≤ missing z rs) same k))
          ])
    ]

fixed_or_few : (rs : List DefiniteRule) (n : ℕ) → (round rs (rounds rs n) ≡ rounds rs n) ⊎ (missing (rounds rs n) rs + n ≤ length rs)
fixed_or_few rs zero = let h : missing [] rs ≤ length rs = missing-below [] rs in inr (omega (arith, h))
fixed_or_few rs (suc n) =
    elim (fixed_or_few rs n) [
      | inl e ↦ inl (ap (round rs) e)
      | inr h ↦
          elim (fixed_or_falls (rounds rs n) (rounds rs n) rs) [
            | inl e ↦ inl (ap (round rs) e)
            | inr k ↦ inr (omega (arith, h, k))
          ]
    ]

-- one more round adds nothing
pub least_model-fixed : (rs : List DefiniteRule) → round rs (least_model rs) ≡ least_model rs
least_model-fixed rs =
    elim (fixed_or_few rs (length rs)) [
      | inl e ↦ e
      | inr h ↦
          elim (fixed_or_falls (least_model rs) (least_model rs) rs) [
            | inl e ↦ e
            | inr k ↦ absurd (omega (arith, h, k))
          ]
    ]

pub rounds_enough : (rs : List DefiniteRule) (n : ℕ) → rounds rs (length rs + n) ≡ least_model rs
rounds_enough rs zero = rw add-zero refl
rounds_enough rs (suc n) = rw add-suc (ap (round rs) (rounds_enough rs n) ∙ least_model-fixed rs)

pub least_model-closed : (rs : List DefiniteRule) → is_closed rs (least_model rs) ≡ true
least_model-closed rs = is_closed_from_fixed rs (least_model rs) (least_model-fixed rs)

with_head-within : (atoms present got : List Atom) (r : DefiniteRule) → (has_all present r.body ≡ true → among atoms r.head ≡ true) → has_all atoms got ≡ true → has_all atoms (with_head present got r) ≡ true
with_head-within atoms present got r f w =
    by_cases present got r (λ z. has_all atoms z ≡ true)
    (λ e. has_all-append atoms got (r.head ∷ []) ∙ and_from (has_all atoms got) (has_all atoms (r.head ∷ [])) w
    (and_from (among atoms r.head) true (f (and_parts (has_all present r.body) (not (among got r.head)) e).0) refl))
    (λ e. w)

with_heads-within : (atoms present got : List Atom) (rs : List DefiniteRule) → is_closed rs atoms ≡ true → has_all atoms present ≡ true → has_all atoms got ≡ true → has_all atoms (with_heads present got rs) ≡ true
with_heads-within atoms present got [] c v w = w
with_heads-within atoms present got (r ∷ rs) c v w =
    let q = and_parts (gives atoms atoms r) (is_closed rs atoms) c in
    let head : has_all present r.body ≡ true → among atoms r.head ≡ true =
    λ b. sym (cond-true (has_all atoms r.body) (among atoms r.head) true (has_all_trans atoms present r.body v b)) ∙ q.0 in
    with_heads-within atoms present (with_head present got r) rs q.1 v (with_head-within atoms present got r head w)

-- each closed list has what the rounds give
pub rounds-within : (rs : List DefiniteRule) (atoms : List Atom) (n : ℕ) → is_closed rs atoms ≡ true → has_all atoms (rounds rs n) ≡ true
rounds-within rs atoms zero c = refl
rounds-within rs atoms (suc n) c =
    let h = rounds-within rs atoms n c in with_heads-within atoms (rounds rs n) (rounds rs n) rs c h h

with_heads-distinct : (present got : List Atom) (rs : List DefiniteRule) → are_distinct got ≡ true → are_distinct (with_heads present got rs) ≡ true
with_heads-distinct present got [] d = d
with_heads-distinct present got (r ∷ rs) d =
    with_heads-distinct present (with_head present got r) rs
    (by_cases present got r (λ z. are_distinct z ≡ true)
    (λ e. are_distinct-push got r.head d (not-true (among got r.head) (and_parts (has_all present r.body) (not (among got r.head)) e).1))
    (λ e. d))

pub rounds-distinct : (rs : List DefiniteRule) (n : ℕ) → are_distinct (rounds rs n) ≡ true
rounds-distinct rs zero = refl
rounds-distinct rs (suc n) = with_heads-distinct (rounds rs n) (rounds rs n) rs (rounds-distinct rs n)

pub are_distinct-rounds : (rs : List DefiniteRule) (n : ℕ) (atoms : List Atom) → atoms ≡ rounds rs n → are_distinct atoms ≡ true
are_distinct-rounds rs n atoms e = ap are_distinct e ∙ rounds-distinct rs n

length-with_head : (present got : List Atom) (r : DefiniteRule) → length got ≤ length (with_head present got r)
length-with_head present got r =
    by_cases present got r (λ z. length got ≤ length z) (λ e. omega (arith, length-append got (r.head ∷ []))) (λ e. omega arith)

length-with_heads : (present got : List Atom) (rs : List DefiniteRule) → length got ≤ length (with_heads present got rs)
length-with_heads present got [] = omega arith
length-with_heads present got (r ∷ rs) =
    let here : length got ≤ length (with_head present got r) = length-with_head present got r in
    let rest : length (with_head present got r) ≤ length (with_heads present (with_head present got r) rs) =
    length-with_heads present (with_head present got r) rs in
    omega (arith, here, rest)

-- a round that adds none changes nothing
with_heads-same : (present got : List Atom) (rs : List DefiniteRule) → length (with_heads present got rs) ≡ length got → with_heads present got rs ≡ got
with_heads-same present got [] e = refl
with_heads-same present got (r ∷ rs) e =
    let next : List Atom = with_head present got r in
    let rest : length next ≤ length (with_heads present next rs) = length-with_heads present next rs in
    elim (cases_Bool (adds present got r)) [
      | inl t ↦
          (let longer : next ≡ got ++ r.head ∷ [] = cond-true (adds present got r) (got ++ r.head ∷ []) got t in
          let more : length next ≡ length (got ++ r.head ∷ []) = ap length longer in
          absurd (omega (arith, rest, more, e, length-append got (r.head ∷ []))))
      | inr f ↦
          (let same : next ≡ got = cond-false (adds present got r) (got ++ r.head ∷ []) got f in
          with_heads-same present next rs (e ∙ sym (ap length same)) ∙ same)
    ]

rounds-stay : (rs : List DefiniteRule) (k j : ℕ) → round rs (rounds rs k) ≡ rounds rs k → rounds rs (k + j) ≡ rounds rs k
rounds-stay rs k zero e = rw add-zero refl
rounds-stay rs k (suc j) e = rw add-suc (ap (round rs) (rounds-stay rs k j e) ∙ e)

-- the model is there as soon as a round adds none
pub least_model-early : (rs : List DefiniteRule) (k : ℕ) (atoms next : List Atom) → k < length rs → atoms ≡ rounds rs k → next ≡ round rs atoms → length next ≡ length atoms → next ≡ least_model rs
least_model-early rs k atoms next h e f g =
    let same : round rs atoms ≡ atoms = with_heads-same atoms atoms rs (ap length (sym f) ∙ g) in
    let fixed : round rs (rounds rs k) ≡ rounds rs k = subst (λ (z : List Atom). round rs z ≡ z) e same in
    let all : k + (length rs - k) ≡ length rs = omega (arith, h) in
    f ∙ same ∙ e ∙ sym (rounds-stay rs k (length rs - k) fixed) ∙ ap (rounds rs) all
