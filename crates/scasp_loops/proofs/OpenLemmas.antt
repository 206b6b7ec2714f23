-- The innermost literal that is open.
use Rattle.std.proofs.Common.{◌≡◌, ◌+◌, ◌-◌, ◌<◌, ◌≤◌, ℕ, zero, suc, Bool, true, false, not, ◌&&◌, if◌then◌else◌, List, [], ◌∷◌, ◌++◌, length, filter, reverse, slice_get, take, Option, None, Some, arith, refl, ap, sym, ◌∙◌}
use Rattle.std.proofs.lemmas.List.{reverse-append, take_all}
use Rattle.scasp_loops.specs.Held.{literal_of}
use Rattle.scasp_loops.specs.Inside.Changed.{changed, done, looped, looped_at}
use Rattle.scasp_loops.specs.Inside.Hinted.{Within, is_done}
use Rattle.scasp_loops.specs.Inside.Open.{OpensAt, holding, left, looped_out, moved_if, open_among, open_in}
use Rattle.scasp_loops.specs.Inside.Zipped.{literals_from}
use Rattle.scasp_loops.specs.declared.entry.Entry.{Entry}
use Rattle.scasp_loops.specs.declared.entry.Marks.{Marks}
use Rattle.scasp_loops.proofs.HintLemmas.{joined, one_within}
use Rattle.scasp_loops.proofs.ZipLemmas.{literals_length, literal_there, marks_changed, some_within}
use Rattle.scasp_search_rules.specs.Successors.Calls.{at_number, finished, looping, marked, moved}
use Rattle.scasp_search_rules.specs.Successors.Calls as calls
use Rattle.scasp_search_rules.specs.declared.states.state.Literal.{Literal}
use Rattle.scasp_search_rules.specs.declared.states.state.State.{State}

-- ---- one more of the first literals

pub taken_more : {T : Type 0} (xs : List T) (n : ℕ) (x : T) → slice_get xs n ≡ Some x → take (n + 1) xs ≡ take n xs ++ x ∷ []
taken_more [] n x g = absurd (cc g)
taken_more (y ∷ xs) zero x g = let s : y ≡ x = cc g in ap (λ z. z ∷ []) s
taken_more (y ∷ xs) (suc n) x g =
    let m : suc n + 1 ≡ suc (n + 1) = omega arith in
    ap (λ (k : ℕ). take k (y ∷ xs)) m ∙ ap (λ ys. y ∷ ys) (taken_more xs n x g)

pub open_pushed : (ls : List Literal) (a : Literal) → open_among (ls ++ a ∷ []) ≡ (if a.is_done then open_among ls else a ∷ open_among ls)
open_pushed ls a = rw (reverse-append ls (a ∷ [])) (by a.is_done refl)
  where
    by : (b : Bool) → a.is_done ≡ b → filter (λ c. not c.is_done) (a ∷ reverse ls) ≡ (if b then open_among ls else a ∷ open_among ls)
    by true e = rw e refl
    by false e = rw e refl

open_more : (es : List Entry) (ms : List Marks) (n : ℕ) (e : Entry) (m : Marks) → slice_get es n ≡ Some e → slice_get ms n ≡ Some m
    → open_in (n + 1) es ms ≡ (if m.is_done then open_in n es ms else literal_of n e m ∷ open_in n es ms)
open_more es ms n e m g h =
    ap open_among (taken_more (literals_from 0 es ms) n (literal_of n e m) (literal_there es ms n e m g h))
    ∙ open_pushed (take n (literals_from 0 es ms)) (literal_of n e m)

pub stands : {T : Type 0} (xs : List T) (n : ℕ) → n < length xs → (x : T) × (slice_get xs n ≡ Some x)
stands [] n h = absurd (omega (arith, h))
stands (x ∷ xs) zero h = (x, refl)
stands (x ∷ xs) (suc n) h = stands xs n (omega (arith, h))

-- ---- those between are done

pub not_there : {T : Type 0} (xs : List T) (n : ℕ) → slice_get xs n ≡ None → length xs ≤ n
not_there [] n g = omega arith
not_there (x ∷ xs) zero g = absurd (cc g)
not_there (x ∷ xs) (suc n) g = omega (arith, not_there xs n g)

past_one : (n : ℕ) (ls : List Literal) → Within is_done n (n + 1) ls → open_among (take (n + 1) ls) ≡ open_among (take n ls)
past_one n ls w = by (slice_get ls n) refl
  where
    by : (o : Option Literal) → slice_get ls n ≡ o → open_among (take (n + 1) ls) ≡ open_among (take n ls)
    by None g = ap open_among (take_all (n + 1) ls (omega (arith, not_there ls n g)) ∙ sym (take_all n ls (not_there ls n g)))
    by (Some a) g =
        ap open_among (taken_more ls n a g) ∙ open_pushed (take n ls) a
        ∙ ap (λ (b : Bool). if b then open_among (take n ls) else a ∷ open_among (take n ls)) (w.each n a (omega arith) (omega arith) g)

past_by : (d n : ℕ) (ls : List Literal) → Within is_done n (n + d) ls → open_among (take (n + d) ls) ≡ open_among (take n ls)
past_by zero n ls w =
    let e : n + 0 ≡ n = omega arith in
    ap (λ (k : ℕ). open_among (take k ls)) e
past_by (suc d) n ls w =
    let e : n + suc d ≡ n + d + 1 = omega arith in
    let v : Within is_done (n + d) (n + d + 1) ls = record { each = λ j a l h g. w.each j a (omega (arith, l)) (omega (arith, h)) g } in
    ap (λ (k : ℕ). open_among (take k ls)) e ∙ past_one (n + d) ls v
    ∙ past_by d n ls (record { each = λ j a l h g. w.each j a l (omega (arith, h)) g })

past_done : (ls : List Literal) (lo hi : ℕ) → lo ≤ hi → Within is_done lo hi ls → open_among (take hi ls) ≡ open_among (take lo ls)
past_done ls lo hi h w =
    let e : lo + (hi - lo) ≡ hi = omega (arith, h) in
    ap (λ (k : ℕ). open_among (take k ls)) (sym e)
    ∙ past_by (hi - lo) lo ls (record { each = λ j a l m g. w.each j a l (omega (arith, m, h)) g })

pub one_done : (es : List Entry) (ms : List Marks) (to left count : ℕ) (m : Marks) → length ms ≤ length es → 0 < left → slice_get ms (left - 1) ≡ Some m → m.is_done ≡ true
    → Within is_done to (left - 1) (literals_from 0 es ms) → Within is_done left count (literals_from 0 es ms) → Within is_done to count (literals_from 0 es ms)
one_done es ms to left count m fit p h d v w =
    let ls = literals_from 0 es ms in
    let e = stands es (left - 1) (omega (arith, fit, some_within ms (left - 1) m h)) in
    joined is_done to left count ls
    (joined is_done to (left - 1) left ls v (one_within is_done (left - 1) left (literal_of (left - 1) e.0 m) ls (omega (arith, p)) (literal_there es ms (left - 1) e.0 m e.1 h) d))
    w

pub one_open : (es : List Entry) (ms : List Marks) (left count : ℕ) (m : Marks) → 0 < left → left ≤ count → slice_get ms (left - 1) ≡ Some m → m.is_done ≡ false
    → Within is_done left count (literals_from 0 es ms) → OpensAt es ms count (left - 1)
one_open es ms left count m p c h d w =
    let q : left ≡ left - 1 + 1 = omega (arith, p) in
    record {
      opens = λ e l g k.
          let s : m ≡ l = cc (h, k) in
          past_done (literals_from 0 es ms) left count c w ∙ ap (λ (j : ℕ). open_in j es ms) q ∙ open_more es ms (left - 1) e l g k
          ∙ ap (λ (b : Bool). if b then open_in (left - 1) es ms else literal_of (left - 1) e l ∷ open_in (left - 1) es ms) (ap (λ (x : Marks). x.is_done) (sym s) ∙ d);
    }

-- behind an open one all are done
pub done_behind : (left count : ℕ) (ls : List Literal) → 0 < left → Within is_done left count ls → Within is_done (left - 1 + 1) count ls
done_behind left count ls p w = record { each = λ j a l h g. w.each j a (omega (arith, l, p)) h g }

pub all_done : (left count : ℕ) (ls : List Literal) → left ≤ 0 → Within is_done left count ls → Within is_done 0 count ls
all_done left count ls p w = record { each = λ j a l h g. w.each j a (omega (arith, p)) h g }

pub none_open : (es : List Entry) (ms : List Marks) (left count : ℕ) → left ≤ 0 → Within is_done left count (literals_from 0 es ms) → open_in count es ms ≡ []
none_open es ms left count p w = past_done (literals_from 0 es ms) 0 count (omega arith) (all_done left count (literals_from 0 es ms) p w)

-- ---- all literals

pub whole : (es : List Entry) (ms : List Marks) (n : ℕ) → n ≡ length ms → length ms ≤ length es → open_in n es ms ≡ open_among (literals_from 0 es ms)
whole es ms n q h = ap open_among (take_all n (literals_from 0 es ms) (omega (arith, q, literals_length es ms h)))

-- ---- a loop that leads out

pub looped_none : (es : List Entry) (ms : List Marks) (n : ℕ) → n ≡ length ms → length ms ≤ length es → open_in n es ms ≡ [] → literals_from 0 es ms ≡ looped_out (literals_from 0 es ms)
looped_none es ms n q h o =
    let ls = literals_from 0 es ms in
    sym (ap (λ (xs : List Literal). (marked xs (holding ls)).literals) (sym (whole es ms n q h) ∙ o))

pub looped_one : (es : List Entry) (ms : List Marks) (n at : ℕ) (e : Entry) (m : Marks) → n ≡ length ms → length ms ≤ length es → OpensAt es ms n at → slice_get es at ≡ Some e → slice_get ms at ≡ Some m
    → literals_from 0 es (changed at looped ms) ≡ looped_out (literals_from 0 es ms)
looped_one es ms n at e m q h o g k =
    let ls = literals_from 0 es ms in
    marks_changed 0 at at looping looped es ms (omega arith) (λ i d l. refl)
    ∙ sym (ap (λ (xs : List Literal). (marked xs (holding ls)).literals) (sym (whole es ms n q h) ∙ o.opens e m g k))

-- ---- the end of a literal

abbrev marked_by : Option ℕ → List Literal → List Literal
marked_by None ls = ls
marked_by (Some n) ls = at_number n looping ls

moved_first : (a : Literal) (rest : List Literal) (s : State) → (moved a rest s).literals ≡ marked_by (moved_if (a.loops && a.lit.positive) rest) s.literals
moved_first a [] s = by (a.loops && a.lit.positive)
  where
    by : (b : Bool) → s.literals ≡ marked_by (moved_if b []) s.literals
    by true = refl
    by false = refl
moved_first a (b ∷ bs) s = by a.loops a.lit.positive
  where
    at : (p : Bool) → (if p then marked (b ∷ bs) s else s).literals ≡ marked_by (if p then Some b.number else None) s.literals
    at true = refl
    at false = refl

    by : (k l : Bool) → (if k && l && b.lit.positive then marked (b ∷ bs) s else s).literals ≡ marked_by (moved_if (k && l) (b ∷ bs)) s.literals
    by true true = at b.lit.positive
    by true false = refl
    by false l = refl

-- the place of the literal around it, where the mark moves on
pub moved_none : (moves : Bool) (xs : List Literal) → moves ≡ false → None ≡ moved_if moves xs
moved_none true xs h = absurd (cc h)
moved_none false xs h = refl

pub moved_past : (moves : Bool) (xs : List Literal) → xs ≡ [] → None ≡ moved_if moves xs
moved_past true xs e = ap (moved_if true) (sym e)
moved_past false xs e = refl

moved_first_of : (moves : Bool) (a : Literal) (xs rest : List Literal) → moves ≡ true → xs ≡ a ∷ rest → (if a.lit.positive then Some a.number else None) ≡ moved_if moves xs
moved_first_of true a xs rest h e = ap (moved_if true) (sym e)
moved_first_of false a xs rest h e = absurd (cc h)

pub moved_one : (es : List Entry) (ms : List Marks) (count at : ℕ) (e : Entry) (m : Marks) (moves : Bool) → moves ≡ true → OpensAt es ms count at → slice_get es at ≡ Some e → slice_get ms at ≡ Some m → e.lit.positive ≡ true
    → Some at ≡ moved_if moves (open_in count es ms)
moved_one es ms count at e m moves h o g k p =
    ap (λ (b : Bool). if b then Some at else None) (sym p) ∙ moved_first_of moves (literal_of at e m) (open_in count es ms) (open_in at es ms) h (o.opens e m g k)

pub moved_off : (es : List Entry) (ms : List Marks) (count at : ℕ) (e : Entry) (m : Marks) (moves : Bool) → moves ≡ true → OpensAt es ms count at → slice_get es at ≡ Some e → slice_get ms at ≡ Some m → e.lit.positive ≡ false
    → None ≡ moved_if moves (open_in count es ms)
moved_off es ms count at e m moves h o g k p =
    ap (λ (b : Bool). if b then Some at else None) (sym p) ∙ moved_first_of moves (literal_of at e m) (open_in count es ms) (open_in at es ms) h (o.opens e m g k)

pub left_none : (es : List Entry) (ms : List Marks) (n : ℕ) → n ≡ length ms → length ms ≤ length es → open_in n es ms ≡ [] → literals_from 0 es ms ≡ left (literals_from 0 es ms)
left_none es ms n q h o =
    let ls = literals_from 0 es ms in
    sym (ap (λ (xs : List Literal). (calls.left xs (holding ls)).literals) (sym (whole es ms n q h) ∙ o))

marks_looped : (es : List Entry) (ms : List Marks) (place : Option ℕ) → literals_from 0 es (looped_at place ms) ≡ marked_by place (literals_from 0 es ms)
marks_looped es ms None = refl
marks_looped es ms (Some at) = marks_changed 0 at at looping looped es ms (omega arith) (λ i d l. refl)

pub left_one : (es : List Entry) (ms : List Marks) (n at : ℕ) (e : Entry) (m : Marks) (moves : Bool) (around : Option ℕ) → n ≡ length ms → length ms ≤ length es → OpensAt es ms n at
    → slice_get es at ≡ Some e → slice_get ms at ≡ Some m → moves ≡ (m.loops && e.lit.positive) → around ≡ moved_if moves (open_in at es ms)
    → literals_from 0 es (looped_at around (changed at done ms)) ≡ left (literals_from 0 es ms)
left_one es ms n at e m moves around q h o g k v r =
    let ls : List Literal = literals_from 0 es ms in
    let rest : List Literal = open_in at es ms in
    let a : Literal = literal_of at e m in
    marks_looped es (changed at done ms) around
    ∙ ap (marked_by around) (marks_changed 0 at at finished done es ms (omega arith) (λ i d l. refl))
    ∙ ap (λ (p : Option ℕ). marked_by p (at_number at finished ls)) (r ∙ ap (λ (b : Bool). moved_if b rest) v)
    ∙ sym (moved_first a rest (record (holding ls) { literals = at_number at finished ls }))
    ∙ sym (ap (λ (xs : List Literal). (calls.left xs (holding ls)).literals) (sym (whole es ms n q h) ∙ o.opens e m g k))
