-- What is known of the literals before one.
use Rattle.std.proofs.Common.{◌≡◌, ◌+◌, ◌-◌, ◌<◌, ◌≤◌, ◌⊎◌, inl, inr, ℕ, zero, suc, Bool, true, false, not, ◌||◌, nat_eq, if◌then◌else◌, List, [], ◌∷◌, ◌++◌, length, slice_get, slice_set, take, None, Some, arith, refl, ap, sym, subst, ◌∙◌}
use Rattle.std.proofs.Math.Bool.{or-true}
use Rattle.std.proofs.lemmas.Bool.{cases_order}
use Rattle.std.proofs.lemmas.Bool.Decides.{Decides-eqb}
use Rattle.scasp_loops.specs.Held.{literal_of}
use Rattle.scasp_loops.specs.Inside.Hinted.{AreHinted, AreHintedEach, AreHints, AreLatest, IsHint, Within, has_no_variable, is_done, is_other, is_past, lit_key, place_in}
use Rattle.scasp_loops.specs.Inside.Kept.{AllStay, StayEach, StaysSo}
use Rattle.scasp_loops.specs.Inside.Zipped.{StandsAt, literals_from}
use Rattle.scasp_loops.specs.declared.entry.Entry.{Entry}
use Rattle.scasp_loops.specs.declared.entry.Marks.{Marks}
use Rattle.scasp_loops.specs.declared.hints.Hint.{Hint}
use Rattle.scasp_loops.proofs.ZipLemmas.{literal_there, literals_length, some_within}
use Rattle.scasp_readings.specs.Readings.{reading}
use Rattle.scasp_search_rules.specs.Successors.Calls.{lit_under}
use Rattle.scasp_search_rules.specs.declared.states.state.Literal.{Literal}
use Rattle.scasp_syntax.specs.Values.{are_ground}
use Rattle.scasp_trail.specs.Past.{earlier, latest}
use Rattle.scasp_unify.specs.declared.bindings.Binding.{Binding}

-- ---- literals between two places

pub none_within : (p : Literal → Bool) (n : ℕ) (ls : List Literal) → Within p n n ls
none_within p n ls = record { each = λ j a l h g. absurd (omega (arith, l, h)) }

pub nothing_within : (p : Literal → Bool) (n m : ℕ) (ls : List Literal) → m ≡ 0 → Within p n m ls
nothing_within p n m ls e = record { each = λ j a l h g. absurd (omega (arith, e, h)) }

pub fewer_within : (p : Literal → Bool) (lo hi to : ℕ) (ls : List Literal) → to ≤ hi → Within p lo hi ls → Within p lo to ls
fewer_within p lo hi to ls t w = record { each = λ j a l h g. w.each j a l (omega (arith, h, t)) g }

pub joined : (p : Literal → Bool) (lo mid hi : ℕ) (ls : List Literal) → Within p lo mid ls → Within p mid hi ls → Within p lo hi ls
joined p lo mid hi ls v w = record { each = λ j a l h g. by j a l h g (cases_order j mid) }
  where
    by : (j : ℕ) (a : Literal) → lo ≤ j → j < hi → slice_get ls j ≡ Some a → ((j ≡ mid) ⊎ ((j < mid) ⊎ (mid < j))) → p a ≡ true
    by j a l h g (inl e) = w.each j a (omega (arith, e)) h g
    by j a l h g (inr (inl b)) = v.each j a l b g
    by j a l h g (inr (inr b)) = w.each j a (omega (arith, b)) h g

pub from_first : (p : Literal → Bool) (left count : ℕ) (ls : List Literal) → left ≤ 0 → Within p left count ls → Within p 0 count ls
from_first p left count ls z w = record { each = λ j a l h g. w.each j a (omega (arith, z)) h g }

pub one_within : (p : Literal → Bool) (at next : ℕ) (a : Literal) (ls : List Literal) → next ≡ at + 1 → slice_get ls at ≡ Some a → p a ≡ true → Within p at next ls
one_within p at next a ls e s q = record { each = λ j b l h g. by j b l h g (omega (arith, e, l, h)) }
  where
    by : (j : ℕ) (b : Literal) → at ≤ j → j < next → slice_get ls j ≡ Some b → j ≡ at → p b ≡ true
    by j b l h g i =
        let t : a ≡ b = cc (s, g, ap (slice_get ls) i) in
        ap p (sym t) ∙ q

pub none_hinted : AreHinted [] [] []
none_hinted = record {
  hints = record { each = λ at h g. absurd (cc g) };
  latest = record { each = λ k. nothing_within (is_other k) (place_in [] k) 0 [] refl };
  enough = omega arith;
  few = omega arith;
}

-- ---- what the hints say

pub same_known : (ls : List Literal) (hs : List Hint) (at key : ℕ) (h : Hint) → AreHints ls hs → slice_get hs at ≡ Some h → h.key ≡ key → Within (is_other key) h.same at ls
same_known ls hs at key h a g e = subst (λ (k : ℕ). Within (is_other k) h.same at ls) e (a.each at h g).same

pub around_known : (ls : List Literal) (hs : List Hint) (at key : ℕ) (h : Hint) → AreHints ls hs → slice_get hs at ≡ Some h → h.key ≡ key → Within (is_past key) h.around at ls
around_known ls hs at key h a g e = subst (λ (k : ℕ). Within (is_past k) h.around at ls) e (a.each at h g).around

pub undone_known : (ls : List Literal) (hs : List Hint) (at : ℕ) (h : Hint) → AreHints ls hs → slice_get hs at ≡ Some h → Within is_done h.undone at ls
undone_known ls hs at h a g = (a.each at h g).undone

pub varied_known : (ls : List Literal) (hs : List Hint) (at : ℕ) (h : Hint) → AreHints ls hs → slice_get hs at ≡ Some h → Within has_no_variable h.varied at ls
varied_known ls hs at h a g = (a.each at h g).varied

pub latest_known : (ls : List Literal) (ts : List ℕ) (key place count : ℕ) → AreLatest ls ts → length ls ≡ count → place ≡ place_in ts key → Within (is_other key) place count ls
latest_known ls ts key place count a e p =
    subst (λ (n : ℕ). Within (is_other key) place n ls) e (subst (λ (n : ℕ). Within (is_other key) n (length ls) ls) (sym p) (a.each key))

-- ---- notes on keys

pub set_length : {T : Type 0} (xs : List T) (n : ℕ) (x : T) → length (slice_set xs n x) ≡ length xs
set_length [] n x = refl
set_length (y ∷ xs) zero x = refl
set_length (y ∷ xs) (suc n) x = ap suc (set_length xs n x)

pub past_end : {T : Type 0} (xs : List T) (n : ℕ) → length xs ≤ n → None ≡ slice_get xs n
past_end [] n h = refl
past_end (x ∷ xs) zero h = absurd (omega (arith, h))
past_end (x ∷ xs) (suc n) h = past_end xs n (omega (arith, h))

pub place_past : (ts : List ℕ) (k : ℕ) → length ts ≤ k → 0 ≡ place_in ts k
place_past [] zero h = refl
place_past [] (suc k) h = refl
place_past (t ∷ ts) zero h = absurd (omega (arith, h))
place_past (t ∷ ts) (suc k) h = place_past ts k (omega (arith, h))

pub longer : (ts : List ℕ) (k : ℕ) → place_in (ts ++ 0 ∷ []) k ≡ place_in ts k
longer [] zero = refl
longer [] (suc k) = sym (place_past [] k (omega arith))
longer (t ∷ ts) zero = refl
longer (t ∷ ts) (suc k) = longer ts k

set_there : (ts : List ℕ) (k n : ℕ) → k < length ts → place_in (slice_set ts k n) k ≡ n
set_there [] k n h = absurd (omega (arith, h))
set_there (t ∷ ts) zero n h = refl
set_there (t ∷ ts) (suc k) n h = set_there ts k n (omega (arith, h))

set_elsewhere : (ts : List ℕ) (k j n : ℕ) → (k ≡ j → ⊥) → place_in (slice_set ts k n) j ≡ place_in ts j
set_elsewhere [] k j n h = refl
set_elsewhere (t ∷ ts) zero zero n h = absurd (h refl)
set_elsewhere (t ∷ ts) zero (suc j) n h = refl
set_elsewhere (t ∷ ts) (suc k) zero n h = refl
set_elsewhere (t ∷ ts) (suc k) (suc j) n h = set_elsewhere ts k j n (λ e. h (ap suc e))

noted_here : (ts : List ℕ) (key place k : ℕ) → key < length ts → place_in (slice_set ts key place) k ≡ (if nat_eq key k then place else place_in ts k)
noted_here ts key place k h = by (nat_eq key k) refl
  where
    by : (b : Bool) → nat_eq key k ≡ b → place_in (slice_set ts key place) k ≡ (if b then place else place_in ts k)
    by true e = subst (λ (n : ℕ). place_in (slice_set ts key place) n ≡ place) ((Decides-eqb key k).0 e) (set_there ts key place h)
    by false e =
        set_elsewhere ts key k place
        (λ q. let t : nat_eq key k ≡ true = (Decides-eqb key k).1 q in
        let r : true ≡ false = sym t ∙ e in
        absurd (cc r))

-- where room was made before
pub noted : (ts us vs : List ℕ) (key place k : ℕ) → ((n : ℕ) → place_in us n ≡ place_in ts n) → key < length us → vs ≡ slice_set us key place
    → place_in vs k ≡ (if nat_eq key k then place else place_in ts k)
noted ts us vs key place k same h e =
    ap (λ (ws : List ℕ). place_in ws k) e ∙ noted_here us key place k h ∙ ap (λ (n : ℕ). if nat_eq key k then place else n) (same k)

-- ---- open literals of a key

pub past_start : (key lo hi : ℕ) (ls : List Literal) → Within (is_other key) lo hi ls → Within (is_past key) lo hi ls
past_start key lo hi ls w = record { each = λ j a l h g. ap (λ (d : Bool). d || a.is_done) (w.each j a l h g) }

-- the last one that was not looked at is done
pub past_done : (es : List Entry) (ms : List Marks) (key to left count : ℕ) (m : Marks) → length ms ≤ length es → 0 < left → slice_get ms (left - 1) ≡ Some m → m.is_done ≡ true
    → Within (is_past key) to (left - 1) (literals_from 0 es ms) → Within (is_past key) left count (literals_from 0 es ms) → Within (is_past key) to count (literals_from 0 es ms)
past_done es ms key to left count m fit p h d v w =
    let ls = literals_from 0 es ms in
    joined (is_past key) to left count ls
    (joined (is_past key) to (left - 1) left ls v
    (record {
      each = λ j a l n g.
          let e : j ≡ left - 1 = omega (arith, p, l, n) in
          ap (λ (b : Bool). is_other key a || b) (done_at 0 (left - 1) es ms m a h (ap (slice_get ls) (sym e) ∙ g) ∙ d) ∙ or-true (is_other key a);
    }))
    w
  where
    done_at : (k n : ℕ) (es : List Entry) (ms : List Marks) (m : Marks) (a : Literal) → slice_get ms n ≡ Some m → slice_get (literals_from k es ms) n ≡ Some a → a.is_done ≡ m.is_done
    done_at k n [] ms m a h g = absurd (cc g)
    done_at k n (e ∷ es) [] m a h g = absurd (cc h)
    done_at k zero (e ∷ es) (n ∷ ms) m a h g =
        let r : n ≡ m = cc h in
        let q : literal_of k e n ≡ a = cc g in
        ap (λ (b : Literal). b.is_done) (sym q) ∙ ap (λ (x : Marks). x.is_done) r
    done_at k (suc n) (e ∷ es) (o ∷ ms) m a h g = done_at (suc k) n es ms m a h g

-- ---- the hint of the next one

marks_there : (ms : List Marks) (n : ℕ) → n < length ms → (m : Marks) × (slice_get ms n ≡ Some m)
marks_there [] n h = absurd (omega (arith, h))
marks_there (m ∷ ms) zero h = (m, refl)
marks_there (m ∷ ms) (suc n) h = marks_there ms n (omega (arith, h))

pub varied_more : (es : List Entry) (ms : List Marks) (place last count : ℕ) (e : Entry) → length ms ≤ length es → 0 < count → count ≤ length ms → last ≡ count - 1
    → slice_get es last ≡ Some e → are_ground e.lit.atom.args ≡ true → Within has_no_variable place last (literals_from 0 es ms) → Within has_no_variable place count (literals_from 0 es ms)
varied_more es ms place last count e fit p c l g q w =
    let m = marks_there ms last (omega (arith, c, p, l)) in
    joined has_no_variable place last count (literals_from 0 es ms) w
    (one_within has_no_variable last count (literal_of last e m.0) (literals_from 0 es ms) (omega (arith, p, l)) (literal_there es ms last e m.0 g m.1) q)

pub known_next : (ls : List Literal) (h : Hint) (at : ℕ) → Within (is_other h.key) h.same at ls → Within (is_past h.key) h.around at ls → h.undone ≡ at → Within has_no_variable h.varied at ls → IsHint ls at h
known_next ls h at s r u v = record {
  same = s;
  around = r;
  undone = subst (λ (n : ℕ). Within is_done n at ls) (sym u) (none_within is_done at ls);
  varied = v;
}

pub enough_hints : (es : List Entry) (ms : List Marks) (hs : List Hint) (ts : List ℕ) → length ms ≤ length es → AreHinted (literals_from 0 es ms) hs ts → length ms ≤ length hs
enough_hints es ms hs ts f a = omega (arith, literals_length es ms f, a.enough)

-- ---- one more hint

pub taken_there : {T : Type 0} (n i : ℕ) (xs ys : List T) → take n xs ≡ take n ys → i < n → slice_get xs i ≡ slice_get ys i
taken_there zero i xs ys t h = absurd (omega (arith, h))
taken_there (suc n) i [] [] t h = refl
taken_there (suc n) i [] (y ∷ ys) t h = absurd (cc t)
taken_there (suc n) i (x ∷ xs) [] t h = absurd (cc t)
taken_there (suc n) zero (x ∷ xs) (y ∷ ys) t h = let e : x ≡ y = cc t in ap Some e
taken_there (suc n) (suc i) (x ∷ xs) (y ∷ ys) t h =
    let e : take n xs ≡ take n ys = cc t in
    taken_there n i xs ys e (omega (arith, h))

pub hinted_stood : (ls : List Literal) (hs gs : List Hint) (ts : List ℕ) (h : Hint) (at : ℕ) → AreHinted ls hs ts → IsHint ls at h → at ≡ length ls → StandsAt at h hs gs
    → ((n : ℕ) → length hs ≤ n → at + 1 ≤ n → length gs ≤ n) → AreHinted ls gs ts
hinted_stood ls hs gs ts h at a i e s f = record {
  hints = record { each = λ n g t. by n g t (cases_order n at) };
  latest = a.latest;
  enough = omega (arith, e, some_within gs at h s.there);
  few = f (length ls + 1) a.few (omega (arith, e));
}
  where
    by : (n : ℕ) (g : Hint) → slice_get gs n ≡ Some g → ((n ≡ at) ⊎ ((n < at) ⊎ (at < n))) → IsHint ls n g
    by n g t (inl q) =
        let r : h ≡ g = cc (s.there, t, ap (slice_get gs) q) in
        subst (λ (k : ℕ). IsHint ls k g) (sym q) (subst (λ (k : Hint). IsHint ls at k) r i)
    by n g t (inr (inl b)) = a.hints.each n g (sym (taken_there at n gs hs s.first b) ∙ t)
    by n g t (inr (inr b)) = absurd (omega (arith, b, e, some_within gs n g t, f (length ls + 1) a.few (omega (arith, e))))

pub hinted_unnoted : (ls : List Literal) (hs : List Hint) (ts us : List ℕ) → AreHinted ls hs ts → ((k : ℕ) → place_in us k ≡ place_in ts k) → AreHinted ls hs us
hinted_unnoted ls hs ts us a u = record {
  hints = a.hints;
  latest = record { each = λ k. subst (λ (n : ℕ). Within (is_other k) n (length ls) ls) (sym (u k)) (a.latest.each k) };
  enough = a.enough;
  few = a.few;
}

-- the place that is noted of one key, where nothing is behind it
noted_within : (p : Literal → Bool) (ls : List Literal) (b : Bool) (place old : ℕ) → length ls ≤ place → Within p old (length ls) ls → Within p (if b then place else old) (length ls) ls
noted_within p ls true place old h w = record { each = λ j a l m g. absurd (omega (arith, l, m, h)) }
noted_within p ls false place old h w = w

pub hinted_noted : (ls : List Literal) (hs : List Hint) (ts us : List ℕ) (key place : ℕ) → AreHinted ls hs ts → length ls ≤ place
    → ((k : ℕ) → place_in us k ≡ (if nat_eq key k then place else place_in ts k)) → AreHinted ls hs us
hinted_noted ls hs ts us key place a h u = record {
  hints = a.hints;
  latest = record { each = λ k. subst (λ (n : ℕ). Within (is_other k) n (length ls) ls) (sym (u k)) (noted_within (is_other k) ls (nat_eq key k) place (place_in ts k) h (a.latest.each k)) };
  enough = a.enough;
  few = a.few;
}

-- ---- one more literal

pushed_there : (ls : List Literal) (a b : Literal) (j : ℕ) → slice_get (ls ++ a ∷ []) j ≡ Some b → ((j < length ls) × (slice_get ls j ≡ Some b)) ⊎ ((j ≡ length ls) × (b ≡ a))
pushed_there [] a b zero g = let e : b ≡ a = cc g in inr (refl, e)
pushed_there [] a b (suc j) g = absurd (cc g)
pushed_there (c ∷ ls) a b zero g = inl ((omega arith), g)
pushed_there (c ∷ ls) a b (suc j) g = by (pushed_there ls a b j g)
  where
    by : ((j < length ls) × (slice_get ls j ≡ Some b)) ⊎ ((j ≡ length ls) × (b ≡ a)) → ((suc j < length (c ∷ ls)) × (slice_get ls j ≡ Some b)) ⊎ ((suc j ≡ length (c ∷ ls)) × (b ≡ a))
    by (inl p) = inl ((omega (arith, p.0)), p.1)
    by (inr p) = inr ((omega (arith, p.0)), p.1)

-- those before the new one
within_pushed : (p : Literal → Bool) (lo hi : ℕ) (ls : List Literal) (a : Literal) → hi ≤ length ls → Within p lo hi ls → Within p lo hi (ls ++ a ∷ [])
within_pushed p lo hi ls a h w = record { each = λ j b l m g. by j b l m (pushed_there ls a b j g) }
  where
    by : (j : ℕ) (b : Literal) → lo ≤ j → j < hi → ((j < length ls) × (slice_get ls j ≡ Some b)) ⊎ ((j ≡ length ls) × (b ≡ a)) → p b ≡ true
    by j b l m (inl q) = w.each j b l m q.1
    by j b l m (inr q) = absurd (omega (arith, m, h, q.0))

-- all of them, where the new one is so, too, or the place is behind it
within_more : (p : Literal → Bool) (lo : ℕ) (ls : List Literal) (a : Literal) → ((length ls < lo) ⊎ (p a ≡ true)) → Within p lo (length ls) ls → Within p lo (length (ls ++ a ∷ [])) (ls ++ a ∷ [])
within_more p lo ls a c w = record { each = λ j b l m g. by j b l (pushed_there ls a b j g) c }
  where
    by : (j : ℕ) (b : Literal) → lo ≤ j → ((j < length ls) × (slice_get ls j ≡ Some b)) ⊎ ((j ≡ length ls) × (b ≡ a)) → ((length ls < lo) ⊎ (p a ≡ true)) → p b ≡ true
    by j b l (inl q) d = w.each j b l q.0 q.1
    by j b l (inr q) (inl d) = absurd (omega (arith, l, d, q.0))
    by j b l (inr q) (inr d) = ap p q.1 ∙ d

length_more : (ls : List Literal) (a : Literal) → length (ls ++ a ∷ []) ≡ length ls + 1
length_more [] a = refl
length_more (b ∷ ls) a = ap suc (length_more ls a) ∙ omega arith

key_or_other : (key place old k : ℕ) (n : ℕ) (a : Literal) → lit_key a.lit ≡ key → n < place → (n < (if nat_eq key k then place else old)) ⊎ (is_other k a ≡ true)
key_or_other key place old k n a e h = by (nat_eq key k) refl
  where
    by : (b : Bool) → nat_eq key k ≡ b → (n < (if b then place else old)) ⊎ (is_other k a ≡ true)
    by true q = inl h
    by false q = inr (ap (λ (c : ℕ). not (nat_eq c k)) e ∙ ap not q)

pub hinted_more : (ls : List Literal) (hs gs : List Hint) (ts us : List ℕ) (h : Hint) (a : Literal) (at place : ℕ) → AreHinted ls gs ts → at ≡ length ls → place ≡ at + 1 → StandsAt at h hs gs
    → lit_key a.lit ≡ h.key → ((k : ℕ) → place_in us k ≡ (if nat_eq h.key k then place else place_in ts k)) → AreHinted (ls ++ a ∷ []) gs us
hinted_more ls hs gs ts us h a at place r e p s q u = record {
  hints = record {
    each = λ n g t.
        let i : IsHint ls n g = r.hints.each n g t in
        let w : n ≤ length ls = omega (arith, some_within gs n g t, r.few) in
        record {
          same = within_pushed (is_other g.key) g.same n ls a w i.same;
          around = within_pushed (is_past g.key) g.around n ls a w i.around;
          undone = within_pushed is_done g.undone n ls a w i.undone;
          varied = within_pushed has_no_variable g.varied n ls a w i.varied;
        };
  };
  latest = record {
    each = λ k.
        subst (λ (n : ℕ). Within (is_other k) n (length (ls ++ a ∷ [])) (ls ++ a ∷ [])) (sym (u k))
        (within_more (is_other k) (if nat_eq h.key k then place else place_in ts k) ls a (key_or_other h.key place (place_in ts k) k (length ls) a q (omega (arith, e, p)))
        (noted_within (is_other k) ls (nat_eq h.key k) place (place_in ts k) (omega (arith, e, p)) (r.latest.each k)));
  };
  enough = omega (arith, length_more ls a, some_within gs at h s.there, e);
  few = omega (arith, length_more ls a, r.few);
}

-- ---- what stays so

so_itself : (a : Literal) → StaysSo a a
so_itself a = record { key = refl; done = λ d. d; ground = λ g. g }

each_itself : (ls : List Literal) → StayEach ls ls
each_itself [] = tt
each_itself (a ∷ ls) = (so_itself a, each_itself ls)

pub all_stay : (ls : List Literal) → AllStay ls ls
all_stay ls = record { each = each_itself ls }

pub stay_equal : (es : List Entry) (ms ns : List Marks) → ns ≡ ms → AllStay (literals_from 0 es ms) (literals_from 0 es ns)
stay_equal es ms ns e = subst (λ (l : List Marks). AllStay (literals_from 0 es ms) (literals_from 0 es l)) (sym e) (all_stay (literals_from 0 es ms))

each_both : (ls ks js : List Literal) → StayEach ls ks → StayEach ks js → StayEach ls js
each_both [] [] [] f g = tt
each_both [] [] (c ∷ js) f g = absurd g
each_both [] (b ∷ ks) js f g = absurd f
each_both (a ∷ ls) [] js f g = absurd f
each_both (a ∷ ls) (b ∷ ks) [] f g = absurd g
each_both (a ∷ ls) (b ∷ ks) (c ∷ js) f g =
    let h : StaysSo a b = f.0 in
    let i : StaysSo b c = g.0 in
    (record { key = i.key ∙ h.key; done = λ d. i.done (h.done d); ground = λ d. i.ground (h.ground d) }, each_both ls ks js f.1 g.1)

pub stay_both : (ls ks js : List Literal) → AllStay ls ks → AllStay ks js → AllStay ls js
stay_both ls ks js f g = record { each = each_both ls ks js f.each g.each }

each_set : (k n : ℕ) (es : List Entry) (ms : List Marks) (old new : Marks) → slice_get ms n ≡ Some old → (old.is_done ≡ true → new.is_done ≡ true)
    → StayEach (literals_from k es ms) (literals_from k es (slice_set ms n new))
each_set k n [] [] old new g d = absurd (cc g)
each_set k n [] (m ∷ ms) old new g d = tt
each_set k n (e ∷ es) [] old new g d = absurd (cc g)
each_set k zero (e ∷ es) (m ∷ ms) old new g d =
    let r : m ≡ old = cc g in
    (record { key = refl; done = λ i. d (ap (λ (x : Marks). x.is_done) (sym r) ∙ i); ground = λ i. i }, each_itself (literals_from (suc k) es ms))
each_set k (suc n) (e ∷ es) (m ∷ ms) old new g d = (so_itself (literal_of k e m), each_set (suc k) n es ms old new g d)

pub stay_set : (es : List Entry) (ms ns : List Marks) (n : ℕ) (old new : Marks) → slice_get ms n ≡ Some old → (old.is_done ≡ true → new.is_done ≡ true) → ns ≡ slice_set ms n new
    → AllStay (literals_from 0 es ms) (literals_from 0 es ns)
stay_set es ms ns n old new g d e = subst (λ (l : List Marks). AllStay (literals_from 0 es ms) (literals_from 0 es l)) (sym e) (record { each = each_set 0 n es ms old new g d })

each_entry : (k n : ℕ) (es : List Entry) (ms : List Marks) (e d : Entry) → slice_get es n ≡ Some e → lit_key d.lit ≡ lit_key e.lit → are_ground e.lit.atom.args ≡ false
    → StayEach (literals_from k es ms) (literals_from k (slice_set es n d) ms)
each_entry k n [] ms e d g q h = absurd (cc g)
each_entry k zero (c ∷ es) [] e d g q h = tt
each_entry k (suc n) (c ∷ es) [] e d g q h = tt
each_entry k zero (c ∷ es) (m ∷ ms) e d g q h =
    let r : c ≡ e = cc g in (
      record {
        key = q ∙ ap (λ (b : Entry). lit_key b.lit) (sym r);
        done = λ i. i;
        ground = λ i. absurd (cc (i, h, ap (λ (b : Entry). are_ground b.lit.atom.args) r));
      },
      each_itself (literals_from (suc k) es ms),
    )
each_entry k (suc n) (c ∷ es) (m ∷ ms) e d g q h = (so_itself (literal_of k c m), each_entry (suc k) n es ms e d g q h)

pub stay_entry : (bs : List Binding) (n : ℕ) (es fs : List Entry) (ms : List Marks) (e d : Entry) → slice_get es n ≡ Some e → d.lit ≡ lit_under (reading bs) e.lit → are_ground e.lit.atom.args ≡ false
    → fs ≡ slice_set es n d → AllStay (literals_from 0 es ms) (literals_from 0 fs ms)
stay_entry bs n es fs ms e d g q h f =
    subst (λ (xs : List Entry). AllStay (literals_from 0 es ms) (literals_from 0 xs ms)) (sym f)
    (record { each = each_entry 0 n es ms e d g (ap lit_key q) h })

-- ---- so what is known stays known

stood_before : (ls ks : List Literal) (j : ℕ) (b : Literal) → StayEach ls ks → slice_get ks j ≡ Some b → (a : Literal) × ((slice_get ls j ≡ Some a) × StaysSo a b)
stood_before [] [] j b f g = absurd (cc g)
stood_before [] (c ∷ ks) j b f g = absurd f
stood_before (a ∷ ls) [] j b f g = absurd f
stood_before (a ∷ ls) (c ∷ ks) zero b f g =
    let e : c ≡ b = cc g in
    (a, (refl, subst (λ (d : Literal). StaysSo a d) e f.0))
stood_before (a ∷ ls) (c ∷ ks) (suc j) b f g = stood_before ls ks j b f.1 g

within_stays : (p : Literal → Bool) (lo hi : ℕ) (ls ks : List Literal) → ((a b : Literal) → StaysSo a b → p a ≡ true → p b ≡ true) → AllStay ls ks → Within p lo hi ls → Within p lo hi ks
within_stays p lo hi ls ks q f w = record {
  each = λ j b l h g.
      let s = stood_before ls ks j b f.each g in
      q s.0 b s.1.1 (w.each j s.0 l h s.1.0);
}

other_stays : (k : ℕ) (a b : Literal) → StaysSo a b → is_other k a ≡ true → is_other k b ≡ true
other_stays k a b s o = ap (λ (n : ℕ). not (nat_eq n k)) s.key ∙ o

past_stays : (k : ℕ) (a b : Literal) → StaysSo a b → is_past k a ≡ true → is_past k b ≡ true
past_stays k a b s o = by (is_other k a) refl
  where
    by : (c : Bool) → is_other k a ≡ c → is_past k b ≡ true
    by true e = ap (λ (d : Bool). d || b.is_done) (other_stays k a b s e)
    by false e = ap (λ (d : Bool). is_other k b || d) (s.done (sym (ap (λ (d : Bool). d || a.is_done) e) ∙ o)) ∙ or-true (is_other k b)

pub hints_stay : (ls ks : List Literal) (hs : List Hint) → AllStay ls ks → AreHints ls hs → AreHints ks hs
hints_stay ls ks hs f a = record {
  each = λ at h g.
      let i : IsHint ls at h = a.each at h g in
      record {
        same = within_stays (is_other h.key) h.same at ls ks (other_stays h.key) f i.same;
        around = within_stays (is_past h.key) h.around at ls ks (past_stays h.key) f i.around;
        undone = within_stays is_done h.undone at ls ks (λ c d s e. s.done e) f i.undone;
        varied = within_stays has_no_variable h.varied at ls ks (λ c d s e. s.ground e) f i.varied;
      };
}

lengths_stay : (ls ks : List Literal) → StayEach ls ks → length ks ≡ length ls
lengths_stay [] [] f = refl
lengths_stay [] (b ∷ ks) f = absurd f
lengths_stay (a ∷ ls) [] f = absurd f
lengths_stay (a ∷ ls) (b ∷ ks) f = ap suc (lengths_stay ls ks f.1)

pub hinted_stays : (ls ks : List Literal) (hs : List Hint) (ts : List ℕ) → AllStay ls ks → AreHinted ls hs ts → AreHinted ks hs ts
hinted_stays ls ks hs ts f a =
    let e : length ks ≡ length ls = lengths_stay ls ks f.each in
    record {
      hints = hints_stay ls ks hs f a.hints;
      latest = record {
        each = λ k. subst (λ (n : ℕ). Within (is_other k) (place_in ts k) n ks) (sym e) (within_stays (is_other k) (place_in ts k) (length ls) ls ks (other_stays k) f (a.latest.each k));
      };
      enough = omega (arith, e, a.enough);
      few = omega (arith, e, a.few);
    }

-- other hints that are right, as many of them
pub hinted_anew : (ls : List Literal) (hs gs : List Hint) (ts : List ℕ) → AreHinted ls hs ts → AreHints ls gs → length gs ≡ length hs → AreHinted ls gs ts
hinted_anew ls hs gs ts a g e = record { hints = g; latest = a.latest; enough = omega (arith, e, a.enough); few = omega (arith, e, a.few) }

-- ---- a hint that is changed

pub item_there : {T : Type 0} (hs : List T) (n i : ℕ) (h g : T) → slice_get (slice_set hs n h) i ≡ Some g → ((i ≡ n) × (g ≡ h)) ⊎ (slice_get hs i ≡ Some g)
item_there [] n i h g t = absurd (cc t)
item_there (k ∷ hs) zero zero h g t = let e : g ≡ h = cc t in inl (refl, e)
item_there (k ∷ hs) zero (suc i) h g t = inr t
item_there (k ∷ hs) (suc n) zero h g t = inr t
item_there (k ∷ hs) (suc n) (suc i) h g t = by (item_there hs n i h g t)
  where
    by : ((i ≡ n) × (g ≡ h)) ⊎ (slice_get hs i ≡ Some g) → ((suc i ≡ suc n) × (g ≡ h)) ⊎ (slice_get hs i ≡ Some g)
    by (inl p) = inl (ap suc p.0, p.1)
    by (inr p) = inr p

pub hints_set : (ls : List Literal) (hs : List Hint) (n : ℕ) (h : Hint) → AreHints ls hs → IsHint ls n h → AreHints ls (slice_set hs n h)
hints_set ls hs n h a i = record { each = λ at g t. by at g (item_there hs n at h g t) }
  where
    by : (at : ℕ) (g : Hint) → ((at ≡ n) × (g ≡ h)) ⊎ (slice_get hs at ≡ Some g) → IsHint ls at g
    by at g (inl p) = subst (λ (k : ℕ). IsHint ls k g) (sym p.0) (subst (λ (k : Hint). IsHint ls n k) (sym p.1) i)
    by at g (inr p) = a.each at g p

pub noted_undone : (ls : List Literal) (hs gs : List Hint) (at undone : ℕ) (old new : Hint) → AreHints ls hs → slice_get hs at ≡ Some old → Within is_done undone at ls
    → new ≡ record { key = old.key; same = old.same; around = old.around; undone = undone; varied = old.varied; top = old.top } → gs ≡ slice_set hs at new → AreHints ls gs
noted_undone ls hs gs at undone old new a o w e s =
    let i : IsHint ls at old = a.each at old o in
    let j : IsHint ls at (record { key = old.key; same = old.same; around = old.around; undone = undone; varied = old.varied; top = old.top }) = record { same = i.same; around = i.around; undone = w; varied = i.varied } in
    subst (AreHints ls) (sym s) (hints_set ls hs at new a (subst (λ (h : Hint). IsHint ls at h) (sym e) j))

pub noted_varied : (ls : List Literal) (hs gs : List Hint) (at varied : ℕ) (old new : Hint) → AreHints ls hs → slice_get hs at ≡ Some old → Within has_no_variable varied at ls
    → new ≡ record { key = old.key; same = old.same; around = old.around; undone = old.undone; varied = varied; top = old.top } → gs ≡ slice_set hs at new → AreHints ls gs
noted_varied ls hs gs at varied old new a o w e s =
    let i : IsHint ls at old = a.each at old o in
    let j : IsHint ls at (record { key = old.key; same = old.same; around = old.around; undone = old.undone; varied = varied; top = old.top }) = record { same = i.same; around = i.around; undone = i.undone; varied = w } in
    subst (AreHints ls) (sym s) (hints_set ls hs at new a (subst (λ (h : Hint). IsHint ls at h) (sym e) j))

-- one more without variables
pub one_ground : (es : List Entry) (ms : List Marks) (to left above : ℕ) (e : Entry) → length ms ≤ length es → 0 < left → left ≤ length ms → slice_get es (left - 1) ≡ Some e
    → are_ground e.lit.atom.args ≡ true → Within has_no_variable to (left - 1) (literals_from 0 es ms) → Within has_no_variable left above (literals_from 0 es ms) → Within has_no_variable to above (literals_from 0 es ms)
one_ground es ms to left above e fit p h g q v w =
    joined has_no_variable to left above (literals_from 0 es ms)
    (varied_more es ms to (left - 1) left e fit p h refl g q v) w

pub all_ground : (left above : ℕ) (ls : List Literal) → left ≤ 0 → Within has_no_variable left above ls → Within has_no_variable 0 above ls
all_ground left above ls p w = record { each = λ j a l h g. w.each j a (omega (arith, p)) h g }

-- ---- at the latest mark

pub hinted_now : (ls : List Literal) (lss : List (List Literal)) (hs : List Hint) (hss : List (List Hint)) (ts : List ℕ) (tss : List (List ℕ))
    → AreHinted ls hs ts → AreHintedEach lss hss tss → AreHinted (latest ls lss) (latest hs hss) (latest ts tss)
hinted_now ls [] hs [] ts [] a f = a
hinted_now ls [] hs [] ts (us ∷ tss) a f = absurd f
hinted_now ls [] hs (gs ∷ hss) ts tss a f = absurd f
hinted_now ls (ks ∷ lss) hs [] ts tss a f = absurd f
hinted_now ls (ks ∷ lss) hs (gs ∷ hss) ts [] a f = absurd f
hinted_now ls (ks ∷ lss) hs (gs ∷ hss) ts (us ∷ tss) a f = f.0

pub hinted_before : (lss : List (List Literal)) (hss : List (List Hint)) (tss : List (List ℕ)) → AreHintedEach lss hss tss → AreHintedEach (earlier lss) (earlier hss) (earlier tss)
hinted_before [] [] [] f = f
hinted_before [] [] (us ∷ tss) f = absurd f
hinted_before [] (gs ∷ hss) tss f = absurd f
hinted_before (ks ∷ lss) [] tss f = absurd f
hinted_before (ks ∷ lss) (gs ∷ hss) [] f = absurd f
hinted_before (ks ∷ lss) (gs ∷ hss) (us ∷ tss) f = f.1
