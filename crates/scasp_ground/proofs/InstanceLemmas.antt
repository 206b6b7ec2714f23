-- The instances of a clause, one way after the other.
use Rattle.std.proofs.Common.{◌≡◌, ◌∷◌, ◌++◌, ◌∙◌, ℕ, zero, suc, ◌+◌, ◌<◌, ◌≤◌, ◌^◌, Bool, true, false, ◌||◌, not, nat_lt, List, [], length, map, filter, take, take_all, drop, get_or, slice_get, Option, None, Some, is_some, refl, sym, ap, arith, append_assoc, append-nil, add-one}
use Rattle.std.specs.List.{list_all, list_any, flat_map}
use Rattle.std.proofs.lemmas.Bool.{or_from, or_left, or_right, cond-true, cond-false}
use Rattle.std.proofs.lemmas.Bool.Decides.{Decides-ltb}
use Rattle.std.proofs.lemmas.List.Folds.{list_any-append}
use Rattle.scasp_model.specs.Grounding.{choices, instance_of, instances, is_test_true, literal_under}
use Rattle.scasp_model.specs.declared.program.GroundClause.{GroundClause}
use Rattle.scasp_syntax.specs.Tm.{Tm}
use Rattle.scasp_syntax.specs.Instances.{atom_under}
use Rattle.scasp_syntax.specs.Values.{Sub, giving}
use Rattle.scasp_syntax.specs.declared.atom.Atom.{Atom}
use Rattle.scasp_syntax.specs.declared.atom.Lit.{Lit}
use Rattle.scasp_syntax.specs.declared.clause.Clause.{Clause}
use Rattle.scasp_syntax.specs.declared.clause.Item.{Item}
use Rattle.scasp_syntax.specs.declared.clause.Item.TheVariants as item
use Rattle.scasp_ground.specs.Bounded.{all_tested, body_tests, clause_overflows, count_over, overflows}
use Rattle.scasp_ground.proofs.ChoiceLemmas.{choices-length}
use Rattle.scasp_ground.proofs.TestLemmas.{body-tested}

-- the instance of a way, where its tests are true
abbrev pub kept_of : Clause → List (List Tm) → List GroundClause
kept_of c ways = map (λ ts. instance_of c (giving ts)) (filter (λ ts. list_all (is_test_true (giving ts)) c.body) ways)

abbrev pub is_past : Clause → List Tm → Bool
is_past c ts = not (is_some (all_tested (giving ts) (body_tests c)))

drop-next : {A : Type 0} (xs : List A) (i : ℕ) (x : A) → i < length xs → x ≡ get_or xs i x → drop i xs ≡ x ∷ drop (i + 1) xs
drop-next {A = A} xs i x h e = go xs i h e ∙ ap (λ n. x ∷ drop n xs) (sym (add-one i))
  where
    go : (ys : List A) (j : ℕ) → j < length ys → x ≡ get_or ys j x → drop j ys ≡ x ∷ drop (suc j) ys
    go [] j h e = absurd (omega (arith, h))
    go (y ∷ ys) zero h e = ap (λ z. z ∷ ys) (sym e)
    go (y ∷ ys) (suc j) h e = go ys j (omega (arith, h)) e

-- one more item was gone through
pub mapped-next : {A B : Type 0} (f : A → List B) (xs : List A) (i : ℕ) (x : A) (made new all : List B) → i < length xs → x ≡ get_or xs i x
    → new ≡ made ++ f x → made ++ flat_map f (drop i xs) ≡ all → new ++ flat_map f (drop (i + 1) xs) ≡ all
mapped-next f xs i x made new all h e n m =
    ap (λ z. z ++ flat_map f (drop (i + 1) xs)) n
    ∙ append_assoc made (f x) (flat_map f (drop (i + 1) xs))
    ∙ ap (λ z. made ++ flat_map f z) (sym (drop-next xs i x h e))
    ∙ m

pub literal-put : (v : Sub) (l : Lit) (a : Atom) (made new : List Lit) (x : Item) → x ≡ item.Call l → a ≡ atom_under v l.atom → new ≡ made ++ record { positive = l.positive; atom = a } ∷ []
    → new ≡ made ++ literal_under v x
literal-put v l a made new x e f n = n ∙ ap (λ (b : Atom). made ++ record { positive = l.positive; atom = b } ∷ []) f ∙ ap (λ (y : Item). made ++ literal_under v y) (sym e)

pub none-put : (v : Sub) (made new : List Lit) (x : Item) → literal_under v x ≡ [] → new ≡ made → new ≡ made ++ literal_under v x
none-put v made new x e n = n ∙ sym (append-nil made) ∙ ap (λ z. made ++ z) (sym e)

kept-append : (c : Clause) (xs ys : List (List Tm)) → kept_of c (xs ++ ys) ≡ kept_of c xs ++ kept_of c ys
kept-append c [] ys = refl
kept-append c (x ∷ xs) ys = by (list_all (is_test_true (giving x)) c.body) refl (kept-append c xs ys)
  where
    by : (b : Bool) → list_all (is_test_true (giving x)) c.body ≡ b → kept_of c (xs ++ ys) ≡ kept_of c xs ++ kept_of c ys → kept_of c ((x ∷ xs) ++ ys) ≡ kept_of c (x ∷ xs) ++ kept_of c ys
    by true e f = rw e (ap (λ z. instance_of c (giving x) ∷ z) f)
    by false e f = rw e f

take-get : {A : Type 0} (xs : List A) (i : ℕ) (x : A) → slice_get xs i ≡ Some x → take (i + 1) xs ≡ take i xs ++ x ∷ []
take-get {A = A} xs i x e = ap (λ n. take n xs) (add-one i) ∙ go xs i e
  where
    go : (ys : List A) (j : ℕ) → slice_get ys j ≡ Some x → take (suc j) ys ≡ take j ys ++ x ∷ []
    go [] j e = cc
    go (y ∷ ys) zero e = let same : y ≡ x = cc in ap (λ z. z ∷ []) same
    go (y ∷ ys) (suc j) e = ap (λ z. y ∷ z) (go ys j e)

-- one more way was gone through
pub kept-true : (c : Clause) (ways : List (List Tm)) (i : ℕ) (ts : List Tm) (old made : List GroundClause) → slice_get ways i ≡ Some ts → all_tested (giving ts) (body_tests c) ≡ Some true
    → made ≡ old ++ kept_of c (take i ways) → made ++ instance_of c (giving ts) ∷ [] ≡ old ++ kept_of c (take (i + 1) ways)
kept-true c ways i ts old made e t m =
    ap (λ z. z ++ instance_of c (giving ts) ∷ []) m
    ∙ append_assoc old (kept_of c (take i ways)) (instance_of c (giving ts) ∷ [])
    ∙ ap (λ z. old ++ z) (ap (λ z. kept_of c (take i ways) ++ z) (sym one) ∙ sym (kept-append c (take i ways) (ts ∷ [])) ∙ ap (kept_of c) (sym (take-get ways i ts e)))
  where
    one : kept_of c (ts ∷ []) ≡ instance_of c (giving ts) ∷ []
    one = rw (← body-tested (giving ts) c true t) refl

pub kept-false : (c : Clause) (ways : List (List Tm)) (i : ℕ) (ts : List Tm) (old made : List GroundClause) → slice_get ways i ≡ Some ts → all_tested (giving ts) (body_tests c) ≡ Some false
    → made ≡ old ++ kept_of c (take i ways) → made ≡ old ++ kept_of c (take (i + 1) ways)
kept-false c ways i ts old made e t m =
    m ∙ ap (λ z. old ++ z) (sym (append-nil (kept_of c (take i ways))) ∙ ap (λ z. kept_of c (take i ways) ++ z) (sym none) ∙ sym (kept-append c (take i ways) (ts ∷ [])) ∙ ap (kept_of c) (sym (take-get ways i ts e)))
  where
    none : kept_of c (ts ∷ []) ≡ []
    none = rw (← body-tested (giving ts) c false t) refl

pub past-none : (c : Clause) (ways : List (List Tm)) (i : ℕ) (ts : List Tm) (b : Bool) → slice_get ways i ≡ Some ts → all_tested (giving ts) (body_tests c) ≡ Some b
    → list_any (is_past c) (take i ways) ≡ false → list_any (is_past c) (take (i + 1) ways) ≡ false
past-none c ways i ts b e t p =
    ap (list_any (is_past c)) (take-get ways i ts e)
    ∙ list_any-append (is_past c) (take i ways) (ts ∷ [])
    ∙ or_from (list_any (is_past c) (take i ways)) (list_any (is_past c) (ts ∷ [])) p (or_from (is_past c ts) false (ap (λ o. not (is_some o)) t) refl)

any-at : {A : Type 0} (p : A → Bool) (xs : List A) (i : ℕ) (x : A) → slice_get xs i ≡ Some x → p x ≡ true → list_any p xs ≡ true
any-at p [] i x e t = cc
any-at p (y ∷ xs) zero x e t = let same : y ≡ x = cc in or_left (p y) (list_any p xs) (ap p same ∙ t)
any-at p (y ∷ xs) (suc i) x e t = or_right (p y) (list_any p xs) (any-at p xs i x e t)

pub past-here : (c : Clause) (ways : List (List Tm)) (i : ℕ) (ts : List Tm) → slice_get ways i ≡ Some ts → all_tested (giving ts) (body_tests c) ≡ None → list_any (is_past c) ways ≡ true
past-here c ways i ts e t = any-at (is_past c) ways i ts e (ap (λ o. not (is_some o)) t)

-- all ways were gone through
all-gone : (d : List Tm) (n count i : ℕ) → count ≡ length d ^ n → count ≤ i → take i (choices d n) ≡ choices d n
all-gone d n count i e h = take_all i (choices d n) (omega (arith, e, h, choices-length d n))

pub kept-all : (c : Clause) (d : List Tm) (count i : ℕ) (old made : List GroundClause) → count ≡ length d ^ c.vars → count ≤ i → made ≡ old ++ kept_of c (take i (choices d c.vars))
    → made ≡ old ++ instances d c
kept-all c d count i old made e h m = m ∙ ap (λ ways. old ++ kept_of c ways) (all-gone d c.vars count i e h)

pub none-past : (c : Clause) (d : List Tm) (count i : ℕ) → count ≡ length d ^ c.vars → count ≤ i → list_any (is_past c) (take i (choices d c.vars)) ≡ false → clause_overflows d c ≡ false
none-past c d count i e h p = ap (list_any (is_past c)) (sym (all-gone d c.vars count i e h)) ∙ p

pub any-clause : (d : List Tm) (clauses : List Clause) (i : ℕ) (c : Clause) → slice_get clauses i ≡ Some c → clause_overflows d c ≡ true → list_any (clause_overflows d) clauses ≡ true
any-clause d clauses i c e t = any-at (clause_overflows d) clauses i c e t

-- a clause has no more instances than all have
pub count-within : (members : ℕ) (clauses : List Clause) (i : ℕ) (c : Clause) → slice_get clauses i ≡ Some c → members ^ c.vars ≤ count_over members clauses
count-within members [] i c e = cc
count-within members (d ∷ clauses) zero c e =
    let same : d ≡ c = cc in
    let here : members ^ d.vars ≡ members ^ c.vars = ap (λ (k : Clause). members ^ k.vars) same in
    omega (arith, here)
count-within members (d ∷ clauses) (suc i) c e = let h = count-within members clauses i c e in omega (arith, h)

pub slice_get-at : {A : Type 0} (xs : List A) (i : ℕ) (x : A) → i < length xs → x ≡ get_or xs i x → slice_get xs i ≡ Some x
slice_get-at [] i x h e = absurd (omega (arith, h))
slice_get-at (y ∷ xs) zero x h e = ap Some (sym e)
slice_get-at (y ∷ xs) (suc i) x h e = slice_get-at xs i x (omega (arith, h)) e
