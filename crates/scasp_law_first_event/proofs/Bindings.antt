-- Bindings in solved form: what is read under them, and how many variables they leave free.
use Rattle.std.specs.Prelude.{◌≡◌, ◌≢◌, ℕ, zero, suc, ◌+◌, ◌<◌, ◌≤◌, nat_eq, nat_lt, Bool, true, false, ◌&&◌, ◌||◌, not, List, [], ◌∷◌, ◌++◌, ⊤}
use Rattle.std.proofs.Common.{refl, ap, sym, subst, arith, ◌∙◌}
use Rattle.std.proofs.lemmas.Bool.{and_parts, or_parts, or_from, or_right, eqb-true, eqb-false, ne_eqb, ltb-true, not-true}
use Rattle.scasp_list.specs.Each.{Each}
use Rattle.scasp_list.proofs.EachLemmas.{Each-from_test}
use Rattle.scasp_search_rules.specs.Successors.Splits.{is_bound_in}
use Rattle.scasp_search_rules.specs.Successors.Variables.{binding}
use Rattle.scasp_syntax.specs.Tm.{Tm, var}
use Rattle.scasp_syntax.specs.Values.{Sub, under}
use Rattle.scasp_syntax.specs.View.{tm_of}
use Rattle.scasp_syntax.specs.WellFormed.{is_below}
use Rattle.scasp_syntax.proofs.ValueLemmas.{under-under}
use Rattle.scasp_unify.specs.Parts.{occurs}
use Rattle.scasp_unify.specs.Solving.{sub_of}
use Rattle.scasp_unify.specs.Unification.{single}
use Rattle.scasp_unify.specs.declared.bindings.Binding.{Binding}
use Rattle.scasp_unify.proofs.SimpleLemmas.{viewed}
use Rattle.scasp_unify.proofs.SolvingLemmas.{under-var, sub-push}
use Rattle.scasp_law_first_event.specs.Solved.{is_absent, are_solved, are_bindings_below}
use Rattle.scasp_law_first_event.proofs.Terms.{EachVar, each-weaker, each-both, each-under, under-self, single-each, single-other, below-each, absent-each}

-- in no binding's term stands its variable, or one that was bound before; and all variables are below n
abbrev pub Solved : ℕ → List Binding → Type 0
Solved n [] = ⊤
Solved n (b ∷ bs) = (b.x < n) × EachVar (λ y. y < n) (tm_of b.term) × Each (λ c. EachVar (λ y. y ≢ b.x) (tm_of c.term)) (b ∷ bs) × Solved n bs

pub solved-from : (n : ℕ) (bs : List Binding) → are_solved bs ≡ true → are_bindings_below n bs ≡ true → Solved n bs
solved-from n [] e f = tt
solved-from n (b ∷ bs) e f =
    let p = and_parts (is_absent b.x (b ∷ bs)) (are_solved bs) e in
    let q = and_parts (nat_lt b.x n && is_below n (tm_of b.term)) (are_bindings_below n bs) f in
    let r = and_parts (nat_lt b.x n) (is_below n (tm_of b.term)) q.0 in (
      ltb-true b.x n r.0,
      below-each n (tm_of b.term) r.1,
      Each-from_test (λ (c : Binding). not (occurs b.x (tm_of c.term))) (λ c. EachVar (λ y. y ≢ b.x) (tm_of c.term))
          (λ c k. absent-each b.x (tm_of c.term) (not-true (occurs b.x (tm_of c.term)) k)) (b ∷ bs) p.0,
      solved-from n bs p.1 q.1,
    )

-- the variable is below n and is not bound
abbrev pub Free : ℕ → List Binding → ℕ → Type 0
Free n bs x = (is_bound_in bs x ≡ false) × (x < n)

-- ---- reading

once : (b : Binding) (bs : List Binding) (t : Tm) → under (sub_of bs) (under (single b.x (tm_of b.term)) t) ≡ under (sub_of (b ∷ bs)) t
once b bs t = under-under (sub_of bs) (single b.x (tm_of b.term)) t

pub read-keeps : (P : ℕ → Type 0) (bs : List Binding) → Each (λ b. EachVar P (tm_of b.term)) bs → (t : Tm) → EachVar P t → EachVar P (under (sub_of bs) t)
read-keeps P [] h t k = subst (EachVar P) (sym (under-var t)) k
read-keeps P (b ∷ bs) h t k =
    let v : Sub = single b.x (tm_of b.term) in
    let first : EachVar P (under v t) = each-under P P v (λ x p. single-each P b.x (tm_of b.term) h.0 x (λ _. p)) t k in
    subst (EachVar P) (once b bs t) (read-keeps P bs h.1 (under v t) first)

-- what is read has no bound variable
pub read-free : (n : ℕ) (bs : List Binding) → Solved n bs → (t : Tm) → EachVar (λ y. y < n) t → EachVar (Free n bs) (under (sub_of bs) t)
read-free n [] h t k = subst (EachVar (Free n [])) (sym (under-var t)) (each-weaker (λ y. y < n) (Free n []) (λ y l. (refl, l)) t k)
read-free n (b ∷ bs) h t k =
    let v : Sub = single b.x (tm_of b.term) in
    let below : EachVar (λ y. y < n) (under v t) = each-under (λ y. y < n) (λ y. y < n) v (λ x l. single-each (λ y. y < n) b.x (tm_of b.term) h.1 x (λ _. l)) t k in
    let gone : EachVar (λ y. y ≢ b.x) (under v t) = each-under (λ y. y < n) (λ y. y ≢ b.x) v (λ x l. single-each (λ y. y ≢ b.x) b.x (tm_of b.term) h.2.0 x (λ d. d)) t k in
    let rest : EachVar (Free n bs) (under (sub_of bs) (under v t)) = read-free n bs h.3 (under v t) below in
    let apart : EachVar (λ y. y ≢ b.x) (under (sub_of bs) (under v t)) = read-keeps (λ y. y ≢ b.x) bs h.2.1 (under v t) gone in
    let both : EachVar (λ y. Free n bs y × (y ≢ b.x)) (under (sub_of bs) (under v t)) = each-both (Free n bs) (λ y. y ≢ b.x) (under (sub_of bs) (under v t)) rest apart in
    subst (EachVar (Free n (b ∷ bs))) (once b bs t)
    (each-weaker (λ y. Free n bs y × (y ≢ b.x)) (Free n (b ∷ bs)) (λ y f. (or_from (nat_eq b.x y) (is_bound_in bs y) (ne_eqb b.x y (λ e. f.1 (sym e))) f.0.0, f.0.1)) (under (sub_of bs) (under v t)) both)

-- an unbound variable stands for itself
pub unbound-self : (bs : List Binding) (x : ℕ) → is_bound_in bs x ≡ false → sub_of bs x ≡ var x
unbound-self [] x e = refl
unbound-self (b ∷ bs) x e =
    let p = or_parts (nat_eq b.x x) (is_bound_in bs x) e in
    ap (under (sub_of bs)) (single-other b.x (tm_of b.term) x (λ d. eqb-false b.x x p.0 (sym d))) ∙ unbound-self bs x p.1

-- what has no bound variable is read as it stands
pub free-self : (n : ℕ) (bs : List Binding) (t : Tm) → EachVar (Free n bs) t → under (sub_of bs) t ≡ t
free-self n bs t h = under-self (sub_of bs) t (each-weaker (Free n bs) (λ x. sub_of bs x ≡ var x) (λ x f. unbound-self bs x f.0) t h)

-- one binding more
pub read-push : (bs : List Binding) (x : ℕ) (u t : Tm) → under (sub_of (bs ++ binding x u ∷ [])) t ≡ under (single x u) (under (sub_of bs) t)
read-push bs x u t =
    ap (λ (v : Sub). under v t) (sub-push bs (binding x u)) ∙ sym (under-under (single x (tm_of (binding x u).term)) (sub_of bs) t)
    ∙ ap (λ (w : Tm). under (single x w) (under (sub_of bs) t)) (viewed u)

-- ---- which variables are bound

pub bound-push : (bs : List Binding) (b : Binding) (x : ℕ) → is_bound_in (bs ++ b ∷ []) x ≡ (is_bound_in bs x || nat_eq b.x x)
bound-push [] b x = by (nat_eq b.x x)
  where
    by : (c : Bool) → (c || false) ≡ (false || c)
    by true = refl
    by false = refl
bound-push (c ∷ bs) b x = by (nat_eq c.x x) (bound-push bs b x)
  where
    by : (d : Bool) → is_bound_in (bs ++ b ∷ []) x ≡ (is_bound_in bs x || nat_eq b.x x) → (d || is_bound_in (bs ++ b ∷ []) x) ≡ ((d || is_bound_in bs x) || nat_eq b.x x)
    by true e = refl
    by false e = e

pub still-free : (n m : ℕ) (bs : List Binding) (b : Binding) (y : ℕ) → n ≤ m → y ≢ b.x → Free n bs y → Free m (bs ++ b ∷ []) y
still-free n m bs b y l d f = (bound-push bs b y ∙ or_from (is_bound_in bs y) (nat_eq b.x y) f.0 (ne_eqb b.x y (λ e. d (sym e))), omega (arith, f.1, l))

-- a variable that is not below n is not bound
pub above-unbound : (n : ℕ) (bs : List Binding) → Solved n bs → (y : ℕ) → n ≤ y → is_bound_in bs y ≡ false
above-unbound n [] h y l = refl
above-unbound n (b ∷ bs) h y l =
    let less : b.x < n = h.0 in
    or_from (nat_eq b.x y) (is_bound_in bs y) (ne_eqb b.x y (λ e. absurd (omega (arith, less, l, e)))) (above-unbound n bs h.3 y l)

-- ---- how many are free

abbrev one_unless : Bool → ℕ
one_unless true = 0
one_unless false = 1

-- how many variables below n are not bound
abbrev pub free_count : List Binding → ℕ → ℕ
free_count bs zero = 0
free_count bs (suc n) = one_unless (is_bound_in bs n) + free_count bs n

one-or : (a b : Bool) → one_unless (a || b) ≤ one_unless a
one-or true b = omega arith
one-or false true = omega arith
one-or false false = omega arith

one-small : (a : Bool) → one_unless a ≤ 1
one-small true = omega arith
one-small false = omega arith

not-more : (bs : List Binding) (b : Binding) (n : ℕ) → one_unless (is_bound_in (bs ++ b ∷ []) n) ≤ one_unless (is_bound_in bs n)
not-more bs b n =
    subst (λ (c : Bool). one_unless c ≤ one_unless (is_bound_in bs n)) (sym (bound-push bs b n)) (one-or (is_bound_in bs n) (nat_eq b.x n))

no-more : (bs : List Binding) (b : Binding) (n : ℕ) → free_count (bs ++ b ∷ []) n ≤ free_count bs n
no-more bs b zero = omega arith
no-more bs b (suc n) = let here = not-more bs b n in let rest = no-more bs b n in omega (arith, here, rest)

pub one-less : (bs : List Binding) (b : Binding) (n : ℕ) → b.x < n → is_bound_in bs b.x ≡ false → free_count (bs ++ b ∷ []) n < free_count bs n
one-less bs b zero l h = absurd (omega (arith, l))
one-less bs b (suc n) l h = by (nat_eq b.x n) refl (λ less. one-less bs b n less h)
  where
    by : (c : Bool) → nat_eq b.x n ≡ c → (b.x < n → free_count (bs ++ b ∷ []) n < free_count bs n) → free_count (bs ++ b ∷ []) (suc n) < free_count bs (suc n)
    by true e below =
        let same : b.x ≡ n = eqb-true b.x n e in
        let now : is_bound_in (bs ++ b ∷ []) n ≡ true = bound-push bs b n ∙ or_right (is_bound_in bs n) (nat_eq b.x n) e in
        let was : is_bound_in bs n ≡ false = subst (λ (y : ℕ). is_bound_in bs y ≡ false) same h in
        let none : one_unless (is_bound_in (bs ++ b ∷ []) n) ≡ 0 = ap one_unless now in
        let some : one_unless (is_bound_in bs n) ≡ 1 = ap one_unless was in
        let rest = no-more bs b n in
        omega (arith, none, some, rest)
    by false e below =
        let other : b.x ≢ n = eqb-false b.x n e in
        let rest = below (omega (arith, l, other)) in
        let here = not-more bs b n in
        omega (arith, here, rest)

pub some-more : (bs : List Binding) (n k : ℕ) → free_count bs (n + k) ≤ free_count bs n + k
some-more bs n zero =
    let e : n + 0 ≡ n = omega arith in
    let same = ap (free_count bs) e in omega (arith, same)
some-more bs n (suc k) =
    let e : n + suc k ≡ suc (n + k) = omega arith in
    let same : free_count bs (n + suc k) ≡ one_unless (is_bound_in bs (n + k)) + free_count bs (n + k) = ap (free_count bs) e in
    let here = one-small (is_bound_in bs (n + k)) in
    let rest = some-more bs n k in
    omega (arith, same, here, rest)
