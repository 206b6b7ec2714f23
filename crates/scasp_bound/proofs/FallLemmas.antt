-- Bindings to variables, behind each change.
use Rattle.std.specs.Prelude.{◌≡◌, ◌<◌, ◌≤◌, ℕ, Bool, true, false, ◌||◌, nat_eq, if◌then◌else◌, List, [], ◌∷◌, ◌++◌, Option, None, Some, refl}
use Rattle.std.proofs.Common.{arith, ap, sym, ◌∙◌}
use Rattle.std.proofs.lemmas.Bool.Decides.{Decides-eqb}
use Rattle.scasp_num.specs.Number.{Number}
use Rattle.scasp_syntax.specs.Tm.{Tm, Tms, var, num, app}
use Rattle.scasp_syntax.specs.Values.{under}
use Rattle.scasp_syntax.specs.View.{tm_of}
use Rattle.scasp_trail.specs.Past.{Past, earlier, is_marked, latest}
use Rattle.scasp_unify.specs.Solving.{sub_of}
use Rattle.scasp_unify.specs.declared.bindings.Binding.{Binding}
use Rattle.scasp_bound.specs.Bounds.{ReadsDown, as_variable}
use Rattle.scasp_bound.specs.Inside.Falls.{AllFall, AllFallEach, AreFalling, Falls}
use Rattle.scasp_bound.specs.Inside.Gaps.{gaps, present}
use Rattle.scasp_bound.specs.Inside.Places.{IsIndexed}
use Rattle.scasp_bound.specs.declared.places.Place.{Place}
use Rattle.scasp_bound.proofs.ReadLemmas.{bound_by, passed_by}

-- ---- one binding

pub to_later : (n y : ℕ) (b : Binding) → tm_of b.term ≡ var y → y ≤ b.x → Falls n b
to_later n y b e h = record { to = λ z m f. let s : y ≡ z = cc (e, f) in omega (arith, s, h) }

pub to_early : (n y : ℕ) (b : Binding) → tm_of b.term ≡ var y → y ≤ n → Falls n b
to_early n y b e h = record { to = λ z m f. let s : y ≡ z = cc (e, f) in absurd (omega (arith, s, m, h)) }

pub to_number : (n : ℕ) (q : Number) (b : Binding) → tm_of b.term ≡ num q → Falls n b
to_number n q b e = record { to = λ z m f. absurd (cc (e, f)) }

pub to_name : (n f : ℕ) (ts : Tms) (b : Binding) → tm_of b.term ≡ app f ts → Falls n b
to_name n f ts b e = record { to = λ z m g. absurd (cc (e, g)) }

-- ---- what variables read as

read_from : (n : ℕ) (os : List (Option Binding)) → AllFall n os → (x r : ℕ) → n < r → sub_of (present os) x ≡ var r → r ≤ x
read_from n [] a x r h e = let s : x ≡ r = cc e in omega (arith, s)
read_from n (None ∷ os) a x r h e = read_from n os a x r h e
read_from n (Some b ∷ os) a x r h e = by (nat_eq b.x x) refl (read_from n os a.1)
  where
    to : (t : Tm) → tm_of b.term ≡ t → b.x ≡ x → ((y s : ℕ) → n < s → sub_of (present os) y ≡ var s → s ≤ y) → under (sub_of (present os)) t ≡ var r → r ≤ x
    to (var y) q m f g =
        let down : r ≤ y = f y r h g in
        let falls : y ≤ b.x = a.0.to y (omega (arith, h, down)) q in
        omega (arith, m, down, falls)
    to (num q) p m f g = absurd (cc g)
    to (app g ts) p m f i = absurd (cc i)

    by : (c : Bool) → nat_eq b.x x ≡ c → ((y s : ℕ) → n < s → sub_of (present os) y ≡ var s → s ≤ y) → r ≤ x
    by true m f = to (tm_of b.term) refl ((Decides-eqb b.x x).0 m) f (sym (bound_by b (present os) x m) ∙ e)
    by false m f = f x r h (sym (passed_by b (present os) x m) ∙ e)

pub read_down : (n : ℕ) (os : List (Option Binding)) → AllFall n os → ReadsDown n (present os)
read_down n os a = record { each = read_from n os a }

pub whole_down : (w : Bool) (n : ℕ) (os : List (Option Binding)) → w ≡ true → AreFalling w n os → ReadsDown n (present os)
whole_down true n os e a = read_down n os a
whole_down false n os e a = absurd (cc e)

pub variable_read : (x : ℕ) (t : Tm) → var x ≡ t → Some x ≡ as_variable t
variable_read x t e = ap as_variable e

pub number_read : (q : Number) (t : Tm) → num q ≡ t → None ≡ as_variable t
number_read q t e = ap as_variable e

pub name_read : (f : ℕ) (ts : Tms) (t : Tm) → app f ts ≡ t → None ≡ as_variable t
name_read f ts t e = ap as_variable e

-- ---- one more binding

falls_beyond : (n m : ℕ) (b : Binding) → n ≤ m → Falls n b → Falls m b
falls_beyond n m b h f = record { to = λ y l e. f.to y (omega (arith, h, l)) e }

all_beyond : (n m : ℕ) (os : List (Option Binding)) → n ≤ m → AllFall n os → AllFall m os
all_beyond n m [] h a = tt
all_beyond n m (None ∷ os) h a = all_beyond n m os h a
all_beyond n m (Some b ∷ os) h a = (falls_beyond n m b h a.0, all_beyond n m os h a.1)

pub each_beyond : (n m : ℕ) (oss : List (List (Option Binding))) → n ≤ m → AllFallEach n oss → AllFallEach m oss
each_beyond n m [] h a = tt
each_beyond n m (os ∷ oss) h a = (all_beyond n m os h a.0, each_beyond n m oss h a.1)

all_more : (n m : ℕ) (os : List (Option Binding)) (b : Binding) → n ≤ m → AllFall n os → Falls m b → AllFall m (os ++ Some b ∷ [])
all_more n m [] b h a f = (f, tt)
all_more n m (None ∷ os) b h a f = all_more n m os b h a f
all_more n m (Some c ∷ os) b h a f = (falls_beyond n m c h a.0, all_more n m os b h a.1 f)

pub falling_more : (w : Bool) (n m : ℕ) (os : List (Option Binding)) (b : Binding) → n ≤ m → AreFalling w n os → Falls m b → AreFalling w m (os ++ Some b ∷ [])
falling_more true n m os b h a f = all_more n m os b h a f
falling_more false n m os b h a f = tt

-- ---- the bindings of a variable taken out

all_gaps : (n x : ℕ) (os : List (Option Binding)) → AllFall n os → AllFall n (gaps x os)
all_gaps n x [] a = tt
all_gaps n x (None ∷ os) a = all_gaps n x os a
all_gaps n x (Some b ∷ os) a = by (nat_eq b.x x) (all_gaps n x os a.1)
  where
    by : (c : Bool) → AllFall n (gaps x os) → AllFall n ((if c then None else Some b) ∷ gaps x os)
    by true g = g
    by false g = (a.0, g)

pub falling_gaps : (w : Bool) (n x : ℕ) (os : List (Option Binding)) → AreFalling w n os → AreFalling w n (gaps x os)
falling_gaps true n x os a = all_gaps n x os a
falling_gaps false n x os a = tt

-- ---- at the latest mark

pub falling_left : (w : Bool) (list : Past (Option Binding)) (places : Past (Option Place)) (n : ℕ) → IsIndexed w list places n
    → AreFalling (w || is_marked list.before) n (latest list.now list.before) × AllFallEach n (earlier list.before)
falling_left w list places n i = by list.before i.falls_before
  where
    whole : (w : Bool) (os : List (Option Binding)) → AllFall n os → AreFalling (w || true) n os
    whole true os h = h
    whole false os h = h

    same : (w : Bool) (os : List (Option Binding)) → AreFalling w n os → AreFalling (w || false) n os
    same true os h = h
    same false os h = h

    by : (oss : List (List (Option Binding))) → AllFallEach n oss → AreFalling (w || is_marked oss) n (latest list.now oss) × AllFallEach n (earlier oss)
    by [] h = (same w list.now i.falls, h)
    by (os ∷ oss) h = (whole w os h.0, h.1)
