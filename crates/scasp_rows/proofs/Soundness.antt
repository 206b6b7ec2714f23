-- The steps of an elimination that ends as unsatisfiable reach a false constant row.
use Rattle.std.proofs.Common.{◌≡◌, ◌≢◌, ℕ, zero, suc, ◌+◌, Bool, true, false, not, ℤ, pos, negsuc, ◌<ℤ◌, Some, None, Option, Result, Ok, Err, List, [], ◌∷◌, ◌++◌, length, nat_lt, refl, sym, ap, subst, ◌∙◌, arith, add-one, append_assoc, cond}
use Rattle.std.specs.Prelude.{if◌then◌else◌, int_lt, slice_get, ◌||◌, filter}
use Rattle.std.specs.List.{list_any}
use Rattle.std.proofs.lemmas.Bool.{and_from, and_parts}
use Rattle.std.proofs.lemmas.Int.{ints}
use Rattle.scasp_num.specs.declared.linear.Op.{Op}
use Rattle.scasp_num.specs.declared.linear.Op.TheVariants as op
use Rattle.scasp_num.specs.declared.hints.Step.{Step}
use Rattle.scasp_num.specs.Arithmetic.{◌>>=◌}
use Rattle.scasp_list.specs.Each.{Each}
use Rattle.scasp_list.proofs.EachLemmas.{Each-map, Each-append, Each-filter}
use Rattle.scasp_num.specs.Linear.{Linear, is_equation, is_zero}
use Rattle.scasp_num.specs.SameRow.{same_row}
use Rattle.scasp_num.proofs.Comparing.{ne_zero}
use Rattle.scasp_num.proofs.Exact.{bind-some}
use Rattle.scasp_rows.specs.declared.state.Halt.{Halt}
use Rattle.scasp_rows.specs.declared.state.Halt.TheVariants as halt
use Rattle.scasp_rows.specs.declared.state.Sign.TheVariants as sign
use Rattle.scasp_rows.specs.declared.state.Standing.{Standing}
use Rattle.scasp_rows.specs.declared.state.State.{State}
use Rattle.scasp_rows.specs.Points.{NoDisequation, is_constant, is_false}
use Rattle.scasp_rows.specs.Steps.{row_sum, may_scale, may_step, row_numbered, row_made, with_steps, ReachesFalse}
use Rattle.scasp_rows.specs.Elimination.{and_then, looked, sum_looked, made, factor, solves, first_equation, others, share, size_over, against, replaced, solved, has_sign, rows_with, met, paired, all_paired, by_equation, made_without, limited, without, eliminated, variables, all_looked, elimination}
use Rattle.scasp_rows.proofs.Sums.{row_sum-op}
use Rattle.scasp_rows.proofs.Shares.{share-dvd_left, share-dvd_right, size_over-above, against-nonzero}

-- ---- rows with numbers

get-more : {A : Type 0} (xs ys : List A) (i : ℕ) (x : A) → Some x ≡ slice_get xs i → Some x ≡ slice_get (xs ++ ys) i
get-more [] ys i x e = cc
get-more (y ∷ xs) ys zero x e = e
get-more (y ∷ xs) ys (suc i) x e = get-more xs ys i x e

get-last : {A : Type 0} (xs : List A) (x : A) → Some x ≡ slice_get (xs ++ x ∷ []) (length xs)
get-last [] x = refl
get-last (y ∷ xs) x = get-last xs x

numbered-more : (all more : List Linear) (n : ℕ) (r : Linear) → Some r ≡ row_numbered all n → Some r ≡ row_numbered (all ++ more) n
numbered-more all more zero r e = cc
numbered-more all more (suc i) r e = get-more all more i r e

numbered-last : (all : List Linear) (r : Linear) (n : ℕ) → n ≡ length all → Some r ≡ row_numbered (all ++ r ∷ []) (n + 1)
numbered-last all r n e = rw (add-one, e) (get-last all r)

any-at : {A : Type 0} (p : A → Bool) (xs : List A) (i : ℕ) (x : A) → Some x ≡ slice_get xs i → p x ≡ true → list_any p xs ≡ true
any-at p [] i x e f = cc
any-at p (y ∷ xs) zero x e f = let same : y ≡ x = cc in ap (λ b. b || list_any p xs) (ap p same ∙ f)
any-at p (y ∷ xs) (suc i) x e f = by (p y) (any-at p xs i x e f)
  where
    by : (b : Bool) → list_any p xs ≡ true → (b || list_any p xs) ≡ true
    by true g = refl
    by false g = g

any-numbered : (all : List Linear) (n : ℕ) (r : Linear) → Some r ≡ row_numbered all n → is_false r ≡ true → list_any is_false all ≡ true
any-numbered all zero r e f = cc
any-numbered all (suc i) r e f = any-at is_false all i r e f

steps-more : (rows : List Linear) (steps : List Step) (s : Step) (all : List Linear) (row : Linear) → Some all ≡ with_steps rows steps → Some row ≡ row_made all s → Some (all ++ row ∷ []) ≡ with_steps rows (steps ++ s ∷ [])
steps-more rows [] s all row e f =
    let same : all ≡ rows = cc in
    ap (λ (rs : List Linear). Some (rs ++ row ∷ [])) same ∙ ap (λ (o : Option Linear). o >>= (λ row. Some (rows ++ row ∷ []))) (f ∙ ap (λ (rs : List Linear). row_made rs s) same)
steps-more rows (t ∷ ts) s all row e f =
    let r = bind-some (row_made rows t) (λ row. with_steps (rows ++ row ∷ []) ts) all e in
    steps-more (rows ++ r.0 ∷ []) ts s all row r.2 f ∙ ap (λ (o : Option Linear). o >>= (λ row. with_steps (rows ++ row ∷ []) (ts ++ s ∷ []))) r.1

-- ---- what holds of a state

-- the row has its number, and is no disequation
pub record Fits (all : List Linear) (r : Standing) : Type 0 where
  pub numbered : Some r.row ≡ row_numbered all r.number
  pub comparing : r.row.op ≢ op.Ne

pub record Sound (rows : List Linear) (s : State) : Type 0 where
  pub all : List Linear
  pub reached : Some all ≡ with_steps rows s.steps
  pub last : s.last ≡ length all
  pub fit : Each (Fits all) s.standing

-- a part that ends so keeps this, and the rows that fitted still fit
abbrev Follows : List Linear → List Linear → Result State Halt → Type 0
Follows rows all (Ok s) = (t : Sound rows s) × ((r : Standing) → Fits all r → Fits t.all r)
Follows rows all (Err (halt.Unsat steps)) = ReachesFalse rows steps
Follows rows all (Err halt.Overflow) = Unit {0}
Follows rows all (Err halt.Memory) = Unit {0}

follows-wider : (rows all more : List Linear) (o : Result State Halt) → ((r : Standing) → Fits all r → Fits more r) → Follows rows more o → Follows rows all o
follows-wider rows all more (Ok s) f g = (g.0, λ r h. g.1 r (f r h))
follows-wider rows all more (Err (halt.Unsat steps)) f g = g
follows-wider rows all more (Err halt.Overflow) f g = tt
follows-wider rows all more (Err halt.Memory) f g = tt

follows-then : (rows all : List Linear) (o : Result State Halt) (f : State → Result State Halt) → Follows rows all o → ((s : State) (t : Sound rows s) → ((r : Standing) → Fits all r → Fits t.all r) → Follows rows t.all (f s)) → Follows rows all (and_then o f)
follows-then rows all (Ok s) f g h = follows-wider rows all g.0.all (f s) g.1 (h s g.0 g.1)
follows-then rows all (Err (halt.Unsat steps)) f g h = g
follows-then rows all (Err halt.Overflow) f g h = tt
follows-then rows all (Err halt.Memory) f g h = tt

looked-follows : (rows : List Linear) (r : Standing) (later : List Standing) (s : State) (t : Sound rows s) → Fits t.all r → Follows rows t.all (looked r later s)
looked-follows rows r later s t f = by (is_false r.row) refl (is_constant r.row || list_any (λ o. same_row o.row r.row) (s.standing ++ later))
  where
    by : (b : Bool) → is_false r.row ≡ b → (d : Bool) → Follows rows t.all (if b then Err (halt.Unsat s.steps) else (if d then Ok s else Ok (record { standing = s.standing ++ r ∷ []; steps = s.steps; last = s.last })))
    by true e d = (t.all, sym t.reached, any-numbered t.all r.number r.row f.numbered e)
    by false e true = (t, λ q h. h)
    by false e false = (record { all = t.all; reached = t.reached; last = t.last; fit = Each-append (Fits t.all) s.standing (r ∷ []) t.fit (f, tt) }, λ q h. h)

fits-more : (all more : List Linear) (r : Standing) → Fits all r → Fits (all ++ more) r
fits-more all more r f = record { numbered = numbered-more all more r.number r.row f.numbered; comparing = f.comparing }

length-more : (all : List Linear) (row : Linear) (n : ℕ) → n ≡ length all → n + 1 ≡ length (all ++ row ∷ [])
length-more [] row n e = ap (λ k. k + 1) e
length-more (r ∷ rs) row zero e = cc
length-more (r ∷ rs) row (suc n) e = let h = length-more rs row n (omega (arith, e)) in omega (arith, h)

made-is : (all : List Linear) (a : ℤ) (p : Standing) (b : ℤ) (q : Standing) → Some p.row ≡ row_numbered all p.number → Some q.row ≡ row_numbered all q.number → may_step a p.row b q.row ≡ true → row_sum a p.row b q.row ≡ row_made all (record { a = a; p = p.number; b = b; q = q.number })
made-is all a p b q e f m =
    ap (λ t. if t then row_sum a p.row b q.row else None) (sym m) ∙ ap (λ (o : Option Linear). o >>= (λ r. if may_step a p.row b r then row_sum a p.row b r else None)) f ∙ ap (λ (o : Option Linear). o >>= (λ r. row_numbered all q.number >>= (λ u. if may_step a r b u then row_sum a r b u else None))) e

made-follows : (rows : List Linear) (a : ℤ) (p : Standing) (b : ℤ) (q : Standing) (later : List Standing) (s : State) (t : Sound rows s) → Fits t.all p → Fits t.all q → may_step a p.row b q.row ≡ true → Follows rows t.all (made a p b q later s)
made-follows rows a p b q later s t f g m = by (row_sum a p.row b q.row) refl
  where
    step : Step
    step = record { a = a; p = p.number; b = b; q = q.number }

    by : (o : Option Linear) → o ≡ row_sum a p.row b q.row → Follows rows t.all (sum_looked (record { a = a; p = p.number; b = b; q = q.number }) later s o)
    by None e = tt
    by (Some row) e =
        let more = t.all ++ row ∷ [] in
        let next : State = record { standing = s.standing; steps = s.steps ++ record { a = a; p = p.number; b = b; q = q.number } ∷ []; last = s.last + 1 } in
        let sound : Sound rows next = record {
          all = more;
          reached = steps-more rows s.steps (record { a = a; p = p.number; b = b; q = q.number }) t.all row t.reached (e ∙ made-is t.all a p b q f.numbered g.numbered m);
          last = length-more t.all row s.last t.last;
          fit = Each-map (Fits t.all) (Fits more) (fits-more t.all (row ∷ [])) s.standing t.fit;
        } in
        let new : Standing = record { number = s.last + 1; row = row } in
        follows-wider rows t.all more (looked new later next) (fits-more t.all (row ∷ []))
        (looked-follows rows new later next sound (record { numbered = numbered-last t.all row s.last t.last; comparing = row_sum-op a p.row b q.row row e f.comparing g.comparing }))

-- ---- one variable

pub scale-above : (a : ℤ) (o : Op) → pos 0 <ℤ a → o ≢ op.Ne → may_scale a o ≡ true
scale-above a op.Eq h n = by a h
  where
    by : (a : ℤ) → pos 0 <ℤ a → not (is_zero a) ≡ true
    by (pos zero) h = absurd (omega (arith, ints))
    by (pos (suc n)) h = refl
    by (negsuc n) h = refl
scale-above a op.Lt h n = grind (arith, ints)
scale-above a op.Le h n = grind (arith, ints)
scale-above a op.Ne h n = absurd (n refl)

pub scale-equation : (a : ℤ) (o : Op) → a ≢ pos 0 → is_equation o ≡ true → may_scale a o ≡ true
scale-equation (pos zero) op.Eq h e = absurd (h refl)
scale-equation (pos (suc n)) op.Eq h e = refl
scale-equation (negsuc n) op.Eq h e = refl
scale-equation a op.Lt h e = cc
scale-equation a op.Le h e = cc
scale-equation a op.Ne h e = cc

pub below-nonzero : (z : ℤ) → int_lt z (pos 0) ≡ true → z ≢ pos 0
below-nonzero z e f = let g : int_lt (pos 0) (pos 0) ≡ true = subst (λ y. int_lt y (pos 0) ≡ true) f e in cc

pub above-nonzero : (z : ℤ) → int_lt (pos 0) z ≡ true → z ≢ pos 0
above-nonzero z e f = let g : int_lt (pos 0) (pos 0) ≡ true = subst (λ y. int_lt (pos 0) y ≡ true) f e in cc

pub not_true : (b : Bool) → not b ≡ true → b ≡ false
not_true true e = cc
not_true false e = refl

solved-follows : (rows : List Linear) (x : ℕ) (p : Standing) (qs : List Standing) (s : State) (t : Sound rows s) → solves x p ≡ true → Fits t.all p → Each (Fits t.all) qs → Follows rows t.all (solved x p qs s)
solved-follows rows x p [] s t h f g = (t, λ r k. k)
solved-follows rows x p (q ∷ qs) s t h f g =
    by (is_zero (factor x q)) refl
    (solved-follows rows x p qs (record { standing = s.standing ++ q ∷ []; steps = s.steps; last = s.last }) (record { all = t.all; reached = t.reached; last = t.last; fit = Each-append (Fits t.all) s.standing (q ∷ []) t.fit (g.0, tt) }) h f g.1)
    (λ s1 t1 wider. solved-follows rows x p qs s1 t1 h (wider p f) (Each-map (Fits t.all) (Fits t1.all) wider qs g.1))
  where
    by : (b : Bool) → is_zero (factor x q) ≡ b → Follows rows t.all (solved x p qs (record { standing = s.standing ++ q ∷ []; steps = s.steps; last = s.last })) → ((s1 : State) (t1 : Sound rows s1) → ((r : Standing) → Fits t.all r → Fits t1.all r) → Follows rows t1.all (solved x p qs s1)) → Follows rows t.all (if b then solved x p qs (record { standing = s.standing ++ q ∷ []; steps = s.steps; last = s.last }) else and_then (replaced x p q qs s) (solved x p qs))
    by true e kept rest = kept
    by false e kept rest =
        let a = factor x p in
        let b = factor x q in
        let k = share a b in
        let parts = and_parts (is_equation p.row.op) (not (is_zero a)) h in
        let a_is = ne_zero a (not_true (is_zero a) parts.1) in
        let first = scale-above (size_over a k) q.row.op (size_over-above a k a_is (share-dvd_left a b)) g.0.comparing in
        let second = scale-equation (against a b k) p.row.op (against-nonzero a b k (ne_zero b e) (share-dvd_right a b)) parts.0 in
        follows-then rows t.all (replaced x p q qs s) (solved x p qs) (made-follows rows (size_over a k) q (against a b k) p qs s t g.0 f (and_from _ _ first second)) rest

met-follows : (rows : List Linear) (x : ℕ) (l u : Standing) (s : State) (t : Sound rows s) → factor x l ≢ pos 0 → factor x u ≢ pos 0 → Fits t.all l → Fits t.all u → Follows rows t.all (met x l u s)
met-follows rows x l u s t a b f g =
    let k = share (factor x l) (factor x u) in
    let first = scale-above (size_over (factor x u) k) l.row.op (size_over-above (factor x u) k b (share-dvd_right (factor x l) (factor x u))) f.comparing in
    let second = scale-above (size_over (factor x l) k) u.row.op (size_over-above (factor x l) k a (share-dvd_left (factor x l) (factor x u))) g.comparing in
    made-follows rows (size_over (factor x u) k) l (size_over (factor x l) k) u [] s t f g (and_from _ _ first second)

-- the row has x
abbrev Has : ℕ → Standing → Type 0
Has x r = factor x r ≢ pos 0

paired-follows : (rows : List Linear) (x : ℕ) (l : Standing) (us : List Standing) (s : State) (t : Sound rows s) → Has x l → Each (Has x) us → Fits t.all l → Each (Fits t.all) us → Follows rows t.all (paired x l us s)
paired-follows rows x l [] s t a b f g = (t, λ r k. k)
paired-follows rows x l (u ∷ us) s t a b f g =
    follows-then rows t.all (met x l u s) (paired x l us) (met-follows rows x l u s t a b.0 f g.0)
    (λ s1 t1 wider. paired-follows rows x l us s1 t1 a b.1 (wider l f) (Each-map (Fits t.all) (Fits t1.all) wider us g.1))

all_paired-follows : (rows : List Linear) (x : ℕ) (ls us : List Standing) (s : State) (t : Sound rows s) → Each (Has x) ls → Each (Has x) us → Each (Fits t.all) ls → Each (Fits t.all) us → Follows rows t.all (all_paired x ls us s)
all_paired-follows rows x [] us s t a b f g = (t, λ r k. k)
all_paired-follows rows x (l ∷ ls) us s t a b f g =
    follows-then rows t.all (paired x l us s) (all_paired x ls us) (paired-follows rows x l us s t a.0 b f.0 g)
    (λ s1 t1 wider. all_paired-follows rows x ls us s1 t1 a.1 b (Each-map (Fits t.all) (Fits t1.all) wider ls f.1) (Each-map (Fits t.all) (Fits t1.all) wider us g))

pub filter-passes : {A : Type 0} (p : A → Bool) (xs : List A) → Each (λ x. p x ≡ true) (filter p xs)
filter-passes p [] = tt
filter-passes p (x ∷ xs) = by (p x) refl (filter-passes p xs)
  where
    by : (b : Bool) → p x ≡ b → Each (λ x. p x ≡ true) (filter p xs) → Each (λ x. p x ≡ true) (cond b (x ∷ filter p xs) (filter p xs))
    by true e f = (e, f)
    by false e f = f

pub first_equation-solves : (x : ℕ) (rs : List Standing) (p : Standing) → Some p ≡ first_equation x rs → solves x p ≡ true
first_equation-solves x [] p e = cc
first_equation-solves x (r ∷ rs) p e = by (solves x r) refl e (first_equation-solves x rs p)
  where
    by : (b : Bool) → solves x r ≡ b → Some p ≡ (if b then Some r else first_equation x rs) → (Some p ≡ first_equation x rs → solves x p ≡ true) → solves x p ≡ true
    by true f e rest = let same : r ≡ p = cc in subst (λ (q : Standing). solves x q ≡ true) same f
    by false f e rest = rest e

pub first_equation-each : (P : Standing → Type 0) (x : ℕ) (rs : List Standing) (p : Standing) → Some p ≡ first_equation x rs → Each P rs → P p
first_equation-each P x [] p e h = cc
first_equation-each P x (r ∷ rs) p e h = by (solves x r) e (λ f. first_equation-each P x rs p f h.1)
  where
    by : (b : Bool) → Some p ≡ (if b then Some r else first_equation x rs) → (Some p ≡ first_equation x rs → P p) → P p
    by true e rest = let same : r ≡ p = cc in subst P same h.0
    by false e rest = rest e

pub others-each : (P : Standing → Type 0) (x : ℕ) (rs : List Standing) → Each P rs → Each P (others x rs)
others-each P x [] h = tt
others-each P x (r ∷ rs) h = by (solves x r) (others-each P x rs h.1)
  where
    by : (b : Bool) → Each P (others x rs) → Each P (if b then rs else r ∷ others x rs)
    by true f = h.1
    by false f = (h.0, f)

made_without-follows : (rows : List Linear) (x : ℕ) (s : State) (t : Sound rows s) → Follows rows t.all (made_without x s)
made_without-follows rows x s t = by (first_equation x s.standing) refl
  where
    by : (o : Option Standing) → o ≡ first_equation x s.standing → Follows rows t.all (by_equation x s o)
    by (Some p) e = solved-follows rows x p (others x s.standing) (record { standing = []; steps = s.steps; last = s.last }) (record { all = t.all; reached = t.reached; last = t.last; fit = tt }) (first_equation-solves x s.standing p e) (first_equation-each (Fits t.all) x s.standing p e t.fit) (others-each (Fits t.all) x s.standing t.fit)
    by None e =
        let below = λ (r : Standing). has_sign sign.Below (factor x r) in
        let above = λ (r : Standing). has_sign sign.Above (factor x r) in
        let zero = λ (r : Standing). has_sign sign.Zero (factor x r) in
        all_paired-follows rows x (rows_with sign.Below x s.standing) (rows_with sign.Above x s.standing)
        (record { standing = rows_with sign.Zero x s.standing; steps = s.steps; last = s.last })
        (record { all = t.all; reached = t.reached; last = t.last; fit = Each-filter (Fits t.all) zero s.standing t.fit })
        (Each-map (λ r. below r ≡ true) (Has x) (λ r f. below-nonzero (factor x r) f) (filter below s.standing) (filter-passes below s.standing))
        (Each-map (λ r. above r ≡ true) (Has x) (λ r f. above-nonzero (factor x r) f) (filter above s.standing) (filter-passes above s.standing))
        (Each-filter (Fits t.all) below s.standing t.fit)
        (Each-filter (Fits t.all) above s.standing t.fit)

without-follows : (rows : List Linear) (x : ℕ) (s : State) (t : Sound rows s) → Follows rows t.all (without x s)
unfolding without
without-follows rows x s t = follows-then rows t.all (made_without x s) limited (made_without-follows rows x s t) (λ s1 t1 wider. by s1 t1 (nat_lt 4096 (length s1.standing)))
  where
    by : (s1 : State) (t1 : Sound rows s1) (b : Bool) → Follows rows t1.all (if b then Err halt.Overflow else Ok s1)
    by s1 t1 true = tt
    by s1 t1 false = (t1, λ r k. k)

eliminated-follows : (rows : List Linear) (xs : List ℕ) (s : State) (t : Sound rows s) → Follows rows t.all (eliminated xs s)
eliminated-follows rows [] s t = (t, λ r k. k)
eliminated-follows rows (x ∷ xs) s t = follows-then rows t.all (without x s) (eliminated xs) (without-follows rows x s t) (λ s1 t1 wider. eliminated-follows rows xs s1 t1)

-- ---- the given rows

-- the rows fit, numbered from n
abbrev FitFrom : List Linear → ℕ → List Linear → Type 0
FitFrom all n [] = Unit {0}
FitFrom all n (r ∷ rs) = Fits all (record { number = n; row = r }) × FitFrom all (n + 1) rs

from-wider : (all more : List Linear) → ((r : Standing) → Fits all r → Fits more r) → (n : ℕ) (rs : List Linear) → FitFrom all n rs → FitFrom more n rs
from-wider all more f n [] h = tt
from-wider all more f n (r ∷ rs) h = (f (record { number = n; row = r }) h.0, from-wider all more f (n + 1) rs h.1)

get-middle : (before rs : List Linear) (r : Linear) → Some r ≡ slice_get (before ++ r ∷ rs) (length before)
get-middle [] rs r = refl
get-middle (b ∷ bs) rs r = get-middle bs rs r

fit-from : (all before rs : List Linear) → all ≡ before ++ rs → NoDisequation rs → (n : ℕ) → n ≡ length before → FitFrom all (n + 1) rs
fit-from all before [] e h n g = tt
fit-from all before (r ∷ rs) e h n g = (
  record { numbered = rw (add-one, g, e) (get-middle before rs r); comparing = h.0 },
  fit-from all (before ++ r ∷ []) rs (e ∙ sym (append_assoc before (r ∷ []) rs)) h.1 (n + 1) (length-more before r n g),
)

all_looked-follows : (rows rs : List Linear) (s : State) (t : Sound rows s) (n : ℕ) → FitFrom t.all n rs → Follows rows t.all (all_looked n rs s)
all_looked-follows rows [] s t n h = (t, λ r k. k)
all_looked-follows rows (r ∷ rs) s t n h =
    follows-then rows t.all (looked (record { number = n; row = r }) [] s) (all_looked (n + 1) rs) (looked-follows rows (record { number = n; row = r }) [] s t h.0)
    (λ s1 t1 wider. all_looked-follows rows rs s1 t1 (n + 1) (from-wider t.all t1.all wider (n + 1) rs h.1))

elimination-follows : (rows : List Linear) → NoDisequation rows → Follows rows rows (elimination rows)
unfolding elimination
elimination-follows rows h =
    let start : State = record { standing = []; steps = []; last = length rows } in
    let sound : Sound rows start = record { all = rows; reached = refl; last = refl; fit = tt } in
    follows-then rows rows (all_looked 1 rows start) (eliminated (variables [] rows)) (all_looked-follows rows rows start sound 1 (fit-from rows [] rows refl h 0 refl))
    (λ s1 t1 wider. eliminated-follows rows (variables [] rows) s1 t1)

pub unsat_reached : (rows : List Linear) (steps : List Step) → NoDisequation rows → elimination rows ≡ Err (halt.Unsat steps) → ReachesFalse rows steps
unsat_reached rows steps h e = subst (Follows rows rows) e (elimination-follows rows h)
