-- With which variables literals start.
use Rattle.std.proofs.Common.{◌≡◌, ◌+◌, ◌-◌, ◌<◌, ◌≤◌, ◌⊎◌, inl, inr, ℕ, zero, suc, Bool, true, false, not, ◌&&◌, nat_eq, List, [], ◌∷◌, length, slice_get, slice_set, Option, None, Some, Result, Ok, Err, OnOk, OnErr, arith, refl, ap, sym, subst, ◌∙◌}
use Rattle.std.proofs.lemmas.Bool.{cases_order}
use Rattle.std.proofs.lemmas.Bool.Decides.{Decides-eqb}
use Rattle.scasp_bound.specs.Bounds.{ReadsDown, as_variable}
use Rattle.scasp_loops.specs.Held.{literal_of}
use Rattle.scasp_loops.specs.Inside.Asked.{is_not, is_repeated, is_seen}
use Rattle.scasp_loops.specs.Inside.Hinted.{Within}
use Rattle.scasp_loops.specs.Inside.Topped.{AllStartBefore, AreTops, AreTopsEach, AreTopped, IsFloor, IsTop, StartsBefore, first_read}
use Rattle.scasp_loops.specs.Inside.Zipped.{StandsAt, literals_from}
use Rattle.scasp_loops.specs.declared.entry.Entry.{Entry}
use Rattle.scasp_loops.specs.declared.entry.Marks.{Marks}
use Rattle.scasp_loops.specs.declared.hints.Hint.{Hint}
use Rattle.scasp_loops.proofs.HintLemmas.{item_there, taken_there}
use Rattle.scasp_loops.proofs.ZipLemmas.{some_within}
use Rattle.scasp_num.specs.Number.{Number}
use Rattle.scasp_readings.specs.Readings.{reading}
use Rattle.scasp_search_rules.specs.Successors.Calls.{is_same, lit_under}
use Rattle.scasp_search_rules.specs.declared.states.state.Literal.{Literal}
use Rattle.scasp_syntax.specs.Same.{same_bool, same_tm, same_tms}
use Rattle.scasp_syntax.specs.Tm.{Tm, Tms, var, num, app, nil, cons}
use Rattle.scasp_syntax.specs.Values.{under, all_under}
use Rattle.scasp_syntax.specs.View.{tm_of, tms_of}
use Rattle.scasp_syntax.specs.declared.atom.Lit.{Lit}
use Rattle.scasp_syntax.specs.declared.term.Term.{Term}
use Rattle.scasp_trail.specs.Past.{Past, earlier, latest}
use Rattle.scasp_unify.specs.Solving.{sub_of}
use Rattle.scasp_unify.specs.declared.bindings.Binding.{Binding}

-- ---- how terms start

starts-as : (r : ℕ) (us ts : Tms) → us ≡ ts → StartsBefore r us → StartsBefore r ts
starts-as r us ts e s = subst (λ (xs : Tms). StartsBefore r xs) e s

pub starts_none : (r : ℕ) (xs : List Term) (ts : Tms) → tms_of xs ≡ ts → xs ≡ [] → StartsBefore r ts
starts_none r xs ts e n = starts-as r (tms_of []) ts (ap tms_of (sym n) ∙ e) tt

starts-with : (r : ℕ) (xs ys : List Term) (x : Term) (ts : Tms) (t : Tm) → tms_of xs ≡ ts → xs ≡ x ∷ ys → tm_of x ≡ t → StartsBefore r (cons t (tms_of ys)) → StartsBefore r ts
starts-with r xs ys x ts t e n q s = starts-as r (cons t (tms_of ys)) ts (ap (λ (u : Tm). cons u (tms_of ys)) (sym q) ∙ ap tms_of (sym n) ∙ e) s

pub starts_variable : (r y : ℕ) (xs ys : List Term) (x : Term) (ts : Tms) → tms_of xs ≡ ts → xs ≡ x ∷ ys → tm_of x ≡ var y → y < r → StartsBefore r ts
starts_variable r y xs ys x ts e n q h = starts-with r xs ys x ts (var y) e n q h

pub starts_number : (r : ℕ) (k : Number) (xs ys : List Term) (x : Term) (ts : Tms) → tms_of xs ≡ ts → xs ≡ x ∷ ys → tm_of x ≡ num k → StartsBefore r ts
starts_number r k xs ys x ts e n q = starts-with r xs ys x ts (num k) e n q tt

pub starts_name : (r f : ℕ) (us : Tms) (xs ys : List Term) (x : Term) (ts : Tms) → tms_of xs ≡ ts → xs ≡ x ∷ ys → tm_of x ≡ app f us → StartsBefore r ts
starts_name r f us xs ys x ts e n q = starts-with r xs ys x ts (app f us) e n q tt

pub none_read : (bs : List Binding) (xs : List Term) (ts : Tms) → tms_of xs ≡ ts → xs ≡ [] → None ≡ first_read bs ts
none_read bs xs ts e n = ap (first_read bs) (ap tms_of (sym n) ∙ e)

pub some_read : (bs : List Binding) (xs ys : List Term) (x : Term) (ts : Tms) (o : Option ℕ) → tms_of xs ≡ ts → xs ≡ x ∷ ys → o ≡ as_variable (under (sub_of bs) (tm_of x)) → o ≡ first_read bs ts
some_read bs xs ys x ts o e n q = q ∙ ap (first_read bs) (ap tms_of (sym n) ∙ e)

-- ---- a literal that starts with another variable

is-variable : (t : Tm) (r : ℕ) → as_variable t ≡ Some r → t ≡ var r
is-variable (var x) r e = let s : x ≡ r = cc e in ap var s
is-variable (num q) r e = absurd (cc e)
is-variable (app f ts) r e = absurd (cc e)

other-variable : (m r x : ℕ) (bs : List Binding) → ReadsDown m bs → m < r → x < r → (s : Tm) → sub_of bs x ≡ s → same_tm s (var r) ≡ false
other-variable m r x bs d h b (num q) e = refl
other-variable m r x bs d h b (app f ts) e = refl
other-variable m r x bs d h b (var y) e = by (nat_eq y r) refl
  where
    by : (c : Bool) → nat_eq y r ≡ c → c ≡ false
    by false q = refl
    by true q = absurd (omega (arith, b, d.each x r h (e ∙ ap var ((Decides-eqb y r).0 q))))

and-false : (p q : Bool) → p ≡ false → (p && q) ≡ false
and-false p q e = ap (λ (b : Bool). b && q) e

first-apart : (m r : ℕ) (bs : List Binding) (us ts : Tms) → first_read bs ts ≡ Some r → ReadsDown m bs → m < r → StartsBefore r us
    → same_tms (all_under (sub_of bs) us) (all_under (sub_of bs) ts) ≡ false
first-apart m r bs us nil e d h b = absurd (cc e)
first-apart m r bs nil (cons t ts) e d h b = refl
first-apart m r bs (cons u us) (cons t ts) e d h b =
    let s : under (sub_of bs) t ≡ var r = is-variable (under (sub_of bs) t) r e in
    and-false (same_tm (under (sub_of bs) u) (under (sub_of bs) t)) (same_tms (all_under (sub_of bs) us) (all_under (sub_of bs) ts))
    (ap (same_tm (under (sub_of bs) u)) s ∙ by u b)
  where
    by : (v : Tm) → StartsBefore r (cons v us) → same_tm (under (sub_of bs) v) (var r) ≡ false
    by (var x) c = other-variable m r x bs d h c (sub_of bs x) refl
    by (num q) c = refl
    by (app f vs) c = refl

pub none_of : (g p q s t : Bool) → t ≡ false → (g && (p && (q && s && t))) ≡ false
none_of false p q s t e = refl
none_of true false q s t e = refl
none_of true true false s t e = refl
none_of true true true false t e = refl
none_of true true true true t e = e

pub floor_is : (n m r : ℕ) (bs : List Binding) (l : Lit) → first_read bs l.atom.args ≡ Some r → ReadsDown m bs → m < r → n < r → IsFloor n bs l r
floor_is n m r bs l e d h b = record {
  beyond = b;
  apart = λ a s.
      none_of (not a.is_general) (same_bool a.lit.positive l.positive) (same_bool a.lit.atom.minus l.atom.minus) (nat_eq a.lit.atom.name l.atom.name)
      (same_tms (all_under (sub_of bs) a.lit.atom.args) (all_under (sub_of bs) l.atom.args)) (first-apart m r bs a.lit.atom.args l.atom.args e d h s);
}

entry-there : (k n : ℕ) (es : List Entry) (ms : List Marks) (a : Literal) → slice_get (literals_from k es ms) n ≡ Some a → (e : Entry) × ((slice_get es n ≡ Some e) × (a.lit ≡ e.lit))
entry-there k n [] ms a g = absurd (cc g)
entry-there k n (e ∷ es) [] a g = absurd (cc g)
entry-there k zero (e ∷ es) (m ∷ ms) a g =
    let q : literal_of k e m ≡ a = cc g in
    (e, (refl, ap (λ (b : Literal). b.lit) (sym q)))
entry-there k (suc n) (e ∷ es) (m ∷ ms) a g = entry-there (suc k) n es ms a g

same-last : (p q : Bool) → q ≡ false → not (p && q) ≡ true
same-last true q e = ap not e
same-last false q e = refl

pub unrepeated_floor : (bs : List Binding) (l : Lit) (n r at : ℕ) (es : List Entry) (ms : List Marks) → IsFloor n bs l r → AllStartBefore r at es
    → Within (is_not (is_repeated (reading bs) l)) 0 at (literals_from 0 es ms)
unrepeated_floor bs l n r at es ms f b = record {
  each = λ j a z h g.
      let e = entry-there 0 j es ms a g in
      let s : StartsBefore r a.lit.atom.args = subst (λ (k : Lit). StartsBefore r k.atom.args) (sym e.1.1) (b.each j e.0 h e.1.0) in
      same-last (not a.is_done) (is_same (reading bs) l a) (f.apart a s);
}

pub unseen_floor : (bs : List Binding) (cases : List ℕ) (l : Lit) (n r at : ℕ) (es : List Entry) (ms : List Marks) → IsFloor n bs l r → AllStartBefore r at es
    → Within (is_not (is_seen bs cases l)) 0 at (literals_from 0 es ms)
unseen_floor bs cases l n r at es ms f b = record {
  each = λ j a z h g.
      let e = entry-there 0 j es ms a g in
      let s : StartsBefore r a.lit.atom.args = subst (λ (k : Lit). StartsBefore r k.atom.args) (sym e.1.1) (b.each j e.0 h e.1.0) in
      same-last _ (is_same (reading bs) l a) (f.apart a s);
}

-- ---- what the tops say

pub top_known : (n r at : ℕ) (es : List Entry) (hs : List Hint) (h : Hint) → AreTops n es hs → slice_get hs at ≡ Some h → h.top < r → n < r → AllStartBefore r at es
top_known n r at es hs h a g t b = a.each at h g r t b

pub none_top : (t at : ℕ) (es : List Entry) (hs : List Hint) → at ≡ 0 → IsTop t at es hs
none_top t at es hs e = record { each = λ n r a h b. record { each = λ j d l g. absurd (omega (arith, e, l)) } }

pub more_top : (t last at : ℕ) (es : List Entry) (hs : List Hint) (e : Entry) (h : Hint) → 0 < at → last ≡ at - 1 → slice_get es last ≡ Some e → slice_get hs last ≡ Some h → h.top ≤ t
    → ((r : ℕ) → t < r → StartsBefore r e.lit.atom.args) → IsTop t at es hs
more_top t last at es hs e h p q g k m f = record {
  each = λ n r a u b. record { each = λ j d l i. by n r a u b j d l i (cases_order j last) };
}
  where
    by : (n r : ℕ) → AreTops n es hs → t < r → n < r → (j : ℕ) → (d : Entry) → j < at → slice_get es j ≡ Some d → ((j ≡ last) ⊎ ((j < last) ⊎ (last < j))) → StartsBefore r d.lit.atom.args
    by n r a u b j d l i (inl s) =
        let x : e ≡ d = cc (g, i, ap (slice_get es) s) in
        subst (λ (c : Entry). StartsBefore r c.lit.atom.args) x (f r u)
    by n r a u b j d l i (inr (inl s)) = (a.each last h k r (omega (arith, m, u)) b).each j d s i
    by n r a u b j d l i (inr (inr s)) = absurd (omega (arith, s, l, p, q))

-- ---- one more literal

pub tops_entry : (n at : ℕ) (es ds : List Entry) (hs : List Hint) (e : Entry) → AreTops n es hs → length hs ≤ at + 1 → StandsAt at e es ds → AreTops n ds hs
tops_entry n at es ds hs e a f s = record {
  each = λ k h g r t b. record {
    each = λ j d l i. (a.each k h g r t b).each j d l (sym (taken_there at j ds es s.first (omega (arith, l, f, some_within hs k h g))) ∙ i);
  };
}

pub tops_hint : (n at : ℕ) (es ds : List Entry) (hs gs : List Hint) (e : Entry) (h : Hint) → AreTops n es hs → length hs ≤ at + 1 → StandsAt at e es ds → StandsAt at h hs gs → length gs ≤ at + 1
    → IsTop h.top at es hs → AreTops n ds gs
tops_hint n at es ds hs gs e h a f s t m i = record { each = λ k g q r u b. by k g q r u b (cases_order k at) }
  where
    ds-tops : AreTops n ds hs
    ds-tops = tops_entry n at es ds hs e a f s

    by : (k : ℕ) → (g : Hint) → slice_get gs k ≡ Some g → (r : ℕ) → g.top < r → n < r → ((k ≡ at) ⊎ ((k < at) ⊎ (at < k))) → AllStartBefore r k ds
    by k g q r u b (inl c) =
        let x : h ≡ g = cc (t.there, q, ap (slice_get gs) c) in
        let o : AllStartBefore r at es = i.each n r a (omega (arith, u, ap (λ (y : Hint). y.top) x)) b in
        record { each = λ j d l z. o.each j d (omega (arith, l, c)) (sym (taken_there at j ds es s.first (omega (arith, l, c))) ∙ z) }
    by k g q r u b (inr (inl c)) = ds-tops.each k g (sym (taken_there at k gs hs t.first c) ∙ q) r u b
    by k g q r u b (inr (inr c)) = absurd (omega (arith, c, m, some_within gs k g q))

-- ---- a hint that is changed, but for its top

pub tops_set : (n at : ℕ) (es : List Entry) (hs gs : List Hint) (old new : Hint) → AreTops n es hs → slice_get hs at ≡ Some old → new.top ≡ old.top → gs ≡ slice_set hs at new → AreTops n es gs
tops_set n at es hs gs old new a o e s = subst (AreTops n es) (sym s) (record { each = λ k g t r u b. by k g r u b (item_there hs at k new g t) })
  where
    by : (k : ℕ) → (g : Hint) → (r : ℕ) → g.top < r → n < r → ((k ≡ at) × (g ≡ new)) ⊎ (slice_get hs k ≡ Some g) → AllStartBefore r k es
    by k g r u b (inl p) = a.each k old (ap (slice_get hs) p.0 ∙ o) r (omega (arith, u, e, ap (λ (y : Hint). y.top) p.1)) b
    by k g r u b (inr p) = a.each k g p r u b

pub tops_put : {A E : Type 0} (r : Result A E) (n at : ℕ) (es : List Entry) (p q : Past Hint) (old new : Hint) → OnOk r (q.now ≡ slice_set p.now at new) → OnErr r (q ≡ p)
    → slice_get p.now at ≡ Some old → new.top ≡ old.top → AreTops n es p.now → AreTops n es q.now
tops_put (Ok x) n at es p q old new s u o e a = tops_set n at es p.now q.now old new a o e s
tops_put (Err x) n at es p q old new s u o e a = subst (λ (h : Past Hint). AreTops n es h.now) (sym u) a

-- ---- a literal that is read

read-before : (n r : ℕ) (bs : List Binding) (ts : Tms) → ReadsDown n bs → n < r → StartsBefore r ts → StartsBefore r (all_under (sub_of bs) ts)
read-before n r bs nil d h s = tt
read-before n r bs (cons (num q) ts) d h s = tt
read-before n r bs (cons (app f us) ts) d h s = tt
read-before n r bs (cons (var x) ts) d h s = by (sub_of bs x) refl
  where
    below : x < r
    below = s

    down : (y : ℕ) → sub_of bs x ≡ var y → ((y ≡ r) ⊎ ((y < r) ⊎ (r < y))) → y < r
    down y e (inl c) = absurd (omega (arith, c, below, d.each x y (omega (arith, c, h)) e))
    down y e (inr (inl c)) = c
    down y e (inr (inr c)) = absurd (omega (arith, c, below, d.each x y (omega (arith, c, h)) e))

    by : (t : Tm) → sub_of bs x ≡ t → StartsBefore r (cons t (all_under (sub_of bs) ts))
    by (var y) e = down y e (cases_order y r)
    by (num q) e = tt
    by (app f us) e = tt

pub tops_read : (n at : ℕ) (bs : List Binding) (es fs : List Entry) (hs : List Hint) (e d : Entry) → slice_get es at ≡ Some e → d.lit ≡ lit_under (reading bs) e.lit → fs ≡ slice_set es at d
    → ReadsDown n bs → AreTops n es hs → AreTops n fs hs
tops_read n at bs es fs hs e d g q f down a =
    subst (λ (xs : List Entry). AreTops n xs hs) (sym f)
    (record { each = λ k h i r t b. record { each = λ j x l z. by k h i r t b j x l (item_there es at j d x z) } })
  where
    by : (k : ℕ) → (h : Hint) → slice_get hs k ≡ Some h → (r : ℕ) → h.top < r → n < r → (j : ℕ) → (x : Entry) → j < k → ((j ≡ at) × (x ≡ d)) ⊎ (slice_get es j ≡ Some x) → StartsBefore r x.lit.atom.args
    by k h i r t b j x l (inl p) =
        let old : StartsBefore r e.lit.atom.args = (a.each k h i r t b).each j e l (ap (slice_get es) p.0 ∙ g) in
        let read : StartsBefore r (lit_under (reading bs) e.lit).atom.args = read-before n r bs e.lit.atom.args down b old in
        subst (λ (y : Lit). StartsBefore r y.atom.args) (sym q ∙ ap (λ (y : Entry). y.lit) (sym p.1)) read
    by k h i r t b j x l (inr p) = (a.each k h i r t b).each j x l p

-- ---- a later variable, and none at all

tops-beyond : (n m : ℕ) (es : List Entry) (hs : List Hint) → n ≤ m → AreTops n es hs → AreTops m es hs
tops-beyond n m es hs h a = record { each = λ at g t r u b. a.each at g t r u (omega (arith, h, b)) }

each-beyond : (n m : ℕ) (ess : List (List Entry)) (hss : List (List Hint)) → n ≤ m → AreTopsEach n ess hss → AreTopsEach m ess hss
each-beyond n m [] [] h a = tt
each-beyond n m [] (hs ∷ hss) h a = absurd a
each-beyond n m (es ∷ ess) [] h a = absurd a
each-beyond n m (es ∷ ess) (hs ∷ hss) h a = (tops-beyond n m es hs h a.0, each-beyond n m ess hss h a.1)

pub topped_beyond : (n m : ℕ) (entries : Past Entry) (hints : Past Hint) → n ≤ m → AreTopped n entries hints → AreTopped m entries hints
topped_beyond n m entries hints h a = record { now = tops-beyond n m entries.now hints.now h a.now; before = each-beyond n m entries.before hints.before h a.before }

pub down_beyond : (n m : ℕ) (bs : List Binding) → n ≤ m → ReadsDown n bs → ReadsDown m bs
down_beyond n m bs h d = record { each = λ x r b e. d.each x r (omega (arith, h, b)) e }

pub none_topped : (n : ℕ) → AreTops n [] []
none_topped n = record { each = λ at h g. absurd (cc g) }

-- ---- at the latest mark

pub tops_now : (n : ℕ) (es : List Entry) (ess : List (List Entry)) (hs : List Hint) (hss : List (List Hint)) → AreTops n es hs → AreTopsEach n ess hss → AreTops n (latest es ess) (latest hs hss)
tops_now n es [] hs [] a f = a
tops_now n es [] hs (gs ∷ hss) a f = absurd f
tops_now n es (ds ∷ ess) hs [] a f = absurd f
tops_now n es (ds ∷ ess) hs (gs ∷ hss) a f = f.0

pub tops_before : (n : ℕ) (ess : List (List Entry)) (hss : List (List Hint)) → AreTopsEach n ess hss → AreTopsEach n (earlier ess) (earlier hss)
tops_before n [] [] f = f
tops_before n [] (gs ∷ hss) f = absurd f
tops_before n (ds ∷ ess) [] f = absurd f
tops_before n (ds ∷ ess) (gs ∷ hss) f = f.1
