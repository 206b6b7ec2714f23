-- Literals kept as two lists, behind each change.
use Rattle.std.proofs.Common.{◌≡◌, ◌+◌, ◌<◌, ◌≤◌, ℕ, zero, suc, Bool, true, false, nat_eq, if◌then◌else◌, List, [], ◌∷◌, ◌++◌, length, slice_get, slice_set, take, Some, arith, refl, ap, sym, ◌∙◌}
use Rattle.std.proofs.lemmas.Bool.Decides.{Decides-eqb}
use Rattle.std.proofs.lemmas.List.{take_all}
use Rattle.scasp_loops.specs.Held.{literal_of}
use Rattle.scasp_loops.specs.Inside.Changed.{changed}
use Rattle.scasp_loops.specs.Inside.Zipped.{FitEach, StandsAt, literals_each, literals_from}
use Rattle.scasp_loops.specs.declared.entry.Entry.{Entry}
use Rattle.scasp_loops.specs.declared.entry.Marks.{Marks}
use Rattle.scasp_search_rules.specs.Successors.Calls.{at_number}
use Rattle.scasp_search_rules.specs.declared.states.state.Literal.{Literal}
use Rattle.scasp_trail.specs.Past.{earlier, is_marked, latest}

-- ---- one item changed

pub set_changed : {T : Type 0} (xs : List T) (n : ℕ) (x y : T) (f : T → T) → slice_get xs n ≡ Some x → y ≡ f x → slice_set xs n y ≡ changed n f xs
set_changed [] n x y f g e = absurd (cc g)
set_changed (z ∷ xs) zero x y f g e = let s : z ≡ x = cc g in ap (λ w. w ∷ xs) (e ∙ ap f (sym s))
set_changed (z ∷ xs) (suc n) x y f g e = ap (λ ys. z ∷ ys) (set_changed xs n x y f g e)

pub changed_length : {T : Type 0} (n : ℕ) (f : T → T) (xs : List T) → length (changed n f xs) ≡ length xs
changed_length n f [] = refl
changed_length zero f (x ∷ xs) = refl
changed_length (suc n) f (x ∷ xs) = ap suc (changed_length n f xs)

pub some_within : {T : Type 0} (xs : List T) (n : ℕ) (x : T) → slice_get xs n ≡ Some x → n < length xs
some_within [] n x g = absurd (cc g)
some_within (y ∷ xs) zero x g = omega arith
some_within (y ∷ xs) (suc n) x g = omega (arith, some_within xs n x g)

-- ---- the literals of the two lists

none_from : (k : ℕ) (es : List Entry) → literals_from k es [] ≡ []
none_from k [] = refl
none_from k (e ∷ es) = refl

pub length-from : (k : ℕ) (es : List Entry) (ms : List Marks) → length ms ≤ length es → length (literals_from k es ms) ≡ length ms
length-from k [] [] h = refl
length-from k [] (m ∷ ms) h = absurd (omega (arith, h))
length-from k (e ∷ es) [] h = refl
length-from k (e ∷ es) (m ∷ ms) h = ap suc (length-from (suc k) es ms (omega (arith, h)))

pub literals_length : (es : List Entry) (ms : List Marks) → length ms ≤ length es → length (literals_from 0 es ms) ≡ length ms
literals_length es ms h = length-from 0 es ms h

there_from : (k j n : ℕ) (es : List Entry) (ms : List Marks) (e : Entry) (m : Marks) → k + n ≡ j → slice_get es n ≡ Some e → slice_get ms n ≡ Some m → slice_get (literals_from k es ms) n ≡ Some (literal_of j e m)
there_from k j n [] ms e m q g h = absurd (cc g)
there_from k j n (d ∷ es) [] e m q g h = absurd (cc h)
there_from k j zero (d ∷ es) (l ∷ ms) e m q g h =
    let p : k ≡ j = omega (arith, q) in
    let r : d ≡ e = cc g in
    let s : l ≡ m = cc h in
    λ i. Some (literal_of (p i) (r i) (s i))
there_from k j (suc n) (d ∷ es) (l ∷ ms) e m q g h = there_from (suc k) j n es ms e m (omega (arith, q)) g h

pub literal_there : (es : List Entry) (ms : List Marks) (n : ℕ) (e : Entry) (m : Marks) → slice_get es n ≡ Some e → slice_get ms n ≡ Some m → slice_get (literals_from 0 es ms) n ≡ Some (literal_of n e m)
literal_there es ms n e m g h = there_from 0 n n es ms e m (omega arith) g h

-- ---- the first literals, so many

taken_more : {T : Type 0} (xs : List T) (n m : ℕ) (x : T) → n + 1 ≡ m → slice_get xs n ≡ Some x → take n xs ++ x ∷ [] ≡ take m xs
taken_more [] n m x q g = absurd (cc g)
taken_more (y ∷ xs) n zero x q g = absurd (omega (arith, q))
taken_more (y ∷ xs) zero (suc zero) x q g = let s : y ≡ x = cc g in ap (λ z. z ∷ []) (sym s)
taken_more (y ∷ xs) zero (suc (suc m)) x q g = absurd (omega (arith, q))
taken_more (y ∷ xs) (suc n) (suc m) x q g = ap (λ ys. y ∷ ys) (taken_more xs n m x (omega (arith, q)) g)

pub copied_more : (es : List Entry) (ms : List Marks) (n m : ℕ) (e : Entry) (l : Marks) → n + 1 ≡ m → slice_get es n ≡ Some e → slice_get ms n ≡ Some l
    → take n (literals_from 0 es ms) ++ literal_of n e l ∷ [] ≡ take m (literals_from 0 es ms)
copied_more es ms n m e l q g h = taken_more (literals_from 0 es ms) n m (literal_of n e l) q (literal_there es ms n e l g h)

pub all_copied : (es : List Entry) (ms : List Marks) (n : ℕ) → length ms ≤ length es → length ms ≤ n → take n (literals_from 0 es ms) ≡ literals_from 0 es ms
all_copied es ms n h w = take_all n (literals_from 0 es ms) (omega (arith, w, literals_length es ms h))

-- ---- one more literal

pub stands_set : {T : Type 0} (n : ℕ) (x : T) (xs : List T) → n < length xs → StandsAt n x xs (slice_set xs n x)
stands_set n x [] h = absurd (omega (arith, h))
stands_set zero x (y ∷ xs) h = record { there = refl; first = refl }
stands_set (suc n) x (y ∷ xs) h =
    let s = stands_set n x xs (omega (arith, h)) in
    record { there = s.there; first = ap (λ ys. y ∷ ys) s.first }

pub stands_pushed : {T : Type 0} (n : ℕ) (x : T) (xs : List T) → n ≡ length xs → StandsAt n x xs (xs ++ x ∷ [])
stands_pushed zero x [] h = record { there = refl; first = refl }
stands_pushed (suc n) x [] h = absurd (omega (arith, h))
stands_pushed zero x (y ∷ xs) h = absurd (omega (arith, h))
stands_pushed (suc n) x (y ∷ xs) h =
    let s = stands_pushed n x xs (omega (arith, h)) in
    record { there = s.there; first = ap (λ ys. y ∷ ys) s.first }

more_from : (k j : ℕ) (es ds : List Entry) (ms : List Marks) (e : Entry) (m : Marks) → k + length ms ≡ j → slice_get ds (length ms) ≡ Some e → take (length ms) ds ≡ take (length ms) es
    → literals_from k ds (ms ++ m ∷ []) ≡ literals_from k es ms ++ literal_of j e m ∷ []
more_from k j es [] ms e m q g t = absurd (cc g)
more_from k j es (d ∷ ds) [] e m q g t =
    let p : k ≡ j = omega (arith, q) in
    let r : d ≡ e = cc g in
    (λ i. literal_of (p i) (r i) m ∷ none_from (suc k) ds i) ∙ ap (λ ls. ls ++ literal_of j e m ∷ []) (sym (none_from k es))
more_from k j [] (d ∷ ds) (l ∷ ms) e m q g t = absurd (cc t)
more_from k j (c ∷ es) (d ∷ ds) (l ∷ ms) e m q g t =
    let r : d ≡ c = cc t in
    let s : take (length ms) ds ≡ take (length ms) es = cc t in
    λ i. literal_of k (r i) l ∷ more_from (suc k) j es ds ms e m (omega (arith, q)) g s i

pub one_more : (es ds : List Entry) (ms : List Marks) (e : Entry) (m : Marks) (n : ℕ) → n ≡ length ms → length ms ≤ length es → StandsAt n e es ds
    → literals_from 0 ds (ms ++ m ∷ []) ≡ literals_from 0 es ms ++ literal_of (length (literals_from 0 es ms)) e m ∷ []
one_more es ds ms e m n q h s =
    let there : slice_get ds (length ms) ≡ Some e = ap (λ (k : ℕ). slice_get ds k) (sym q) ∙ s.there in
    let first : take (length ms) ds ≡ take (length ms) es = ap (λ (k : ℕ). take k ds) (sym q) ∙ s.first ∙ ap (λ (k : ℕ). take k es) q in
    more_from 0 (length (literals_from 0 es ms)) es ds ms e m (omega (arith, literals_length es ms h)) there first

same_from : (k : ℕ) (es ds : List Entry) (ms : List Marks) → take (length ms) ds ≡ take (length ms) es → literals_from k ds ms ≡ literals_from k es ms
same_from k es ds [] t = none_from k ds ∙ sym (none_from k es)
same_from k [] [] (l ∷ ms) t = refl
same_from k [] (d ∷ ds) (l ∷ ms) t = absurd (cc t)
same_from k (c ∷ es) [] (l ∷ ms) t = absurd (cc t)
same_from k (c ∷ es) (d ∷ ds) (l ∷ ms) t =
    let r : d ≡ c = cc t in
    let s : take (length ms) ds ≡ take (length ms) es = cc t in
    λ i. literal_of k (r i) l ∷ same_from (suc k) es ds ms s i

pub none_more : (es ds : List Entry) (ms : List Marks) (e : Entry) (n : ℕ) → n ≡ length ms → StandsAt n e es ds → literals_from 0 ds ms ≡ literals_from 0 es ms
none_more es ds ms e n q s = same_from 0 es ds ms (ap (λ (k : ℕ). take k ds) (sym q) ∙ s.first ∙ ap (λ (k : ℕ). take k es) q)

-- ---- the marks of one literal

equal : (a b : ℕ) → a ≡ b → nat_eq a b ≡ true
equal a b e = (Decides-eqb a b).1 e

unequal : (a b : ℕ) → a < b → nat_eq a b ≡ false
unequal a b h = by (nat_eq a b) refl
  where
    by : (c : Bool) → nat_eq a b ≡ c → c ≡ false
    by true e = absurd (omega (arith, h, (Decides-eqb a b).0 e))
    by false e = refl

unequal_below : (a b : ℕ) → b < a → nat_eq a b ≡ false
unequal_below a b h = by (nat_eq a b) refl
  where
    by : (c : Bool) → nat_eq a b ≡ c → c ≡ false
    by true e = absurd (omega (arith, h, (Decides-eqb a b).0 e))
    by false e = refl

untouched : (k j : ℕ) (f : Literal → Literal) (es : List Entry) (ms : List Marks) → j < k → at_number j f (literals_from k es ms) ≡ literals_from k es ms
untouched k j f [] ms h = refl
untouched k j f (e ∷ es) [] h = refl
untouched k j f (e ∷ es) (m ∷ ms) h =
    let a : Literal = literal_of k e m in
    λ i. (if unequal_below k j h i then f a else a) ∷ untouched (suc k) j f es ms (omega (arith, h)) i

pub marks_changed : (k j n : ℕ) (f : Literal → Literal) (g : Marks → Marks) (es : List Entry) (ms : List Marks) → k + n ≡ j
    → ((i : ℕ) → (e : Entry) → (m : Marks) → f (literal_of i e m) ≡ literal_of i e (g m))
    → literals_from k es (changed n g ms) ≡ at_number j f (literals_from k es ms)
marks_changed k j n f g [] ms q h = refl
marks_changed k j n f g (e ∷ es) [] q h = refl
marks_changed k j zero f g (e ∷ es) (m ∷ ms) q h =
    let a : Literal = literal_of k e m in
    λ i. (sym (h k e m) ∙ ap (λ (b : Bool). if b then f a else a) (sym (equal k j (omega (arith, q))))) i ∷ sym (untouched (suc k) j f es ms (omega (arith, q))) i
marks_changed k j (suc n) f g (e ∷ es) (m ∷ ms) q h =
    let a : Literal = literal_of k e m in
    λ i. ap (λ (b : Bool). if b then f a else a) (sym (unequal k j (omega (arith, q)))) i ∷ marks_changed (suc k) j n f g es ms (omega (arith, q)) h i

-- ---- at the latest mark

pub now_left : (es : List Entry) (ess : List (List Entry)) (ms : List Marks) (mss : List (List Marks)) → FitEach ess mss → literals_from 0 (latest es ess) (latest ms mss) ≡ latest (literals_from 0 es ms) (literals_each ess mss)
now_left es [] ms [] f = refl
now_left es [] ms (ls ∷ mss) f = absurd f
now_left es (ds ∷ ess) ms [] f = absurd f
now_left es (ds ∷ ess) ms (ls ∷ mss) f = refl

pub before_left : (ess : List (List Entry)) (mss : List (List Marks)) → FitEach ess mss → literals_each (earlier ess) (earlier mss) ≡ earlier (literals_each ess mss)
before_left [] [] f = refl
before_left [] (ls ∷ mss) f = absurd f
before_left (ds ∷ ess) [] f = absurd f
before_left (ds ∷ ess) (ls ∷ mss) f = refl

pub fit_now : (es : List Entry) (ess : List (List Entry)) (ms : List Marks) (mss : List (List Marks)) → length ms ≤ length es → FitEach ess mss → length (latest ms mss) ≤ length (latest es ess)
fit_now es [] ms [] h f = h
fit_now es [] ms (ls ∷ mss) h f = absurd f
fit_now es (ds ∷ ess) ms [] h f = absurd f
fit_now es (ds ∷ ess) ms (ls ∷ mss) h f = f.0

pub fit_before : (ess : List (List Entry)) (mss : List (List Marks)) → FitEach ess mss → FitEach (earlier ess) (earlier mss)
fit_before [] [] f = f
fit_before [] (ls ∷ mss) f = absurd f
fit_before (ds ∷ ess) [] f = absurd f
fit_before (ds ∷ ess) (ls ∷ mss) f = f.1

pub marked_each : (ess : List (List Entry)) (mss : List (List Marks)) → FitEach ess mss → is_marked mss ≡ is_marked (literals_each ess mss)
marked_each [] [] f = refl
marked_each [] (ls ∷ mss) f = absurd f
marked_each (ds ∷ ess) [] f = absurd f
marked_each (ds ∷ ess) (ls ∷ mss) f = refl
