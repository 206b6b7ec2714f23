-- A sorted list has a valuation exactly where it does not fail by terms and some rational point meets what it says of numbers.
use Rattle.std.proofs.Common.{◌≡◌, ℕ, suc, ◌+◌, ◌≤◌, Bool, true, false, ◌&&◌, nat_lt, if◌then◌else◌, List, [], ◌∷◌, Option, None, Some, refl, sym, ap, ◌∙◌, arith}
use Rattle.std.specs.List.{list_all, list_any, Contains}
use Rattle.std.proofs.lemmas.Bool.{and_from, and_parts, lt-ltb, true≢false}
use Rattle.scasp_num.specs.declared.linear.Coeff.{Coeff}
use Rattle.scasp_list.specs.Each.{Each}
use Rattle.scasp_list.proofs.EachLemmas.{Each-map}
use Rattle.scasp_num.specs.Number.{Number}
use Rattle.scasp_syntax.specs.Tm.{Tm, Tms, var, num, app, nil, cons}
use Rattle.scasp_syntax.specs.Values.{Sub, Valuation, under, all_under, is_ground, are_ground}
use Rattle.scasp_syntax.specs.View.{tm_of}
use Rattle.scasp_syntax.specs.Constraints.{holds, is_number, Meets, Sat}
use Rattle.scasp_unify.specs.Parts.{Part, parts}
use Rattle.scasp_unify.specs.Unification.{then_by, Absorbs}
use Rattle.scasp_unify.specs.Resolver.{unifies, resolver}
use Rattle.scasp_unify.specs.Numbers.{counts, is_num_of, number_var, is_number_term, is_among_numbers}
use Rattle.scasp_unify.specs.TermFailures.{is_refuted, fails_by_terms}
use Rattle.scasp_unify.specs.Sorted.{Sorted, apart, typed, partly, is_typed, is_typed_con}
use Rattle.scasp_unify.proofs.Choices.{is_named_below, are_named_below, Named, Apart, IfParts-apart, TermsHold, Choice}
use Rattle.scasp_syntax.specs.RowTruth.{number_of, point}
use Rattle.scasp_unify.specs.Points.{read_as, through}
use Rattle.scasp_unify.specs.PointMeets.{PartsDiffer, PointMeets}
use Rattle.scasp_syntax.specs.declared.con.Con.{Con}
use Rattle.scasp_syntax.specs.declared.con.Con.TheVariants as con
use Rattle.scasp_unify.proofs.UnificationLemmas.{Fits, Says, parts-say, resolved-twice}
use Rattle.scasp_unify.proofs.FailureLemmas.{num-of, absorbed, complete, sound, counting}
use Rattle.scasp_unify.proofs.PointLemmas.{bridge, holds-same, complete-row, point-through}
use Rattle.scasp_syntax.proofs.ValueLemmas.{differ_decided}
use Rattle.scasp_unify.proofs.Members.{not-false, Each-member, Each-from, Each-self}
use Rattle.scasp_list.proofs.MemberLemmas.{list_all-from, list_all-member, list_any-member}

-- ---- a number above all names of a list, resolved

mutual
  names_bound : Tm → ℕ
  names_bound (var x) = 0
  names_bound (num q) = 0
  names_bound (app f ts) = suc f + names_bounds ts

  names_bounds : Tms → ℕ
  names_bounds nil = 0
  names_bounds (cons t ts) = names_bound t + names_bounds ts

mutual
  unfolding names_bound names_bounds

  named-by : (k : ℕ) (t : Tm) → names_bound t ≤ k → is_named_below k t ≡ true
  named-by k (var x) h = refl
  named-by k (num q) h = refl
  named-by k (app f ts) h = and_from (nat_lt f k) (are_named_below k ts) (lt-ltb f k (omega (arith, h))) (all-named-by k ts (omega (arith, h)))

  all-named-by : (k : ℕ) (ts : Tms) → names_bounds ts ≤ k → are_named_below k ts ≡ true
  all-named-by k nil h = refl
  all-named-by k (cons t ts) h = and_from (is_named_below k t) (are_named_below k ts) (named-by k t (omega (arith, h))) (all-named-by k ts (omega (arith, h)))

con_bound : Sub → Con → ℕ
con_bound s (con.Neq t u) = names_bound (under s (tm_of t)) + names_bound (under s (tm_of u))
con_bound s (con.NotShape x f n) = suc f
con_bound s (con.Eq t u) = 0
con_bound s (con.Num t) = 0
con_bound s (con.NotNum t) = 0
con_bound s (con.Row r) = 0

pub list_bound : Sub → List Con → ℕ
list_bound s [] = 0
list_bound s (c ∷ cs) = con_bound s c + list_bound s cs

named-con : (s : Sub) (k : ℕ) (c : Con) → con_bound s c ≤ k → Named k s c
unfolding con_bound
named-con s k (con.Neq t u) h = (named-by k (under s (tm_of t)) (omega (arith, h)), named-by k (under s (tm_of u)) (omega (arith, h)))
named-con s k (con.NotShape x f n) h = omega (arith, h)
named-con s k (con.Eq t u) h = tt
named-con s k (con.Num t) h = tt
named-con s k (con.NotNum t) h = tt
named-con s k (con.Row r) h = tt

named-list : (s : Sub) (k : ℕ) (cs : List Con) → list_bound s cs ≤ k → Each (Named k s) cs
unfolding list_bound
named-list s k [] h = tt
named-list s k (c ∷ cs) h = (named-con s k c (omega (arith, h)), named-list s k cs (omega (arith, h)))

-- ---- the valuation of a point

abbrev pub chosen : List Con → (ℕ → Number) → ℕ → Sub
chosen cs p k y = if number_var cs y then num (p y) else app (k + y) nil

chosen-number : (cs : List Con) (p : ℕ → Number) (k y : ℕ) → number_var cs y ≡ true → chosen cs p k y ≡ num (p y)
chosen-number cs p k y e = rw e refl

pub chosen-name : (cs : List Con) (p : ℕ → Number) (k y : ℕ) → number_var cs y ≡ false → chosen cs p k y ≡ app (k + y) nil
chosen-name cs p k y e = rw e refl

choice : (cs : List Con) (p : ℕ → Number) (k : ℕ) → Choice cs k (chosen cs p k)
choice cs p k = record {
  named = λ y. k + y;
  fresh = λ y. omega arith;
  distinct = λ x y e. omega (arith, e);
  numbers = λ y e. ap is_number (chosen-number cs p k y e);
  names = λ y e. chosen-name cs p k y e;
}

pub ground-chosen : (cs : List Con) (p : ℕ → Number) (k y : ℕ) → is_ground (chosen cs p k y) ≡ true
ground-chosen cs p k y = by (number_var cs y)
  where
    by : (b : Bool) → is_ground (if b then num (p y) else app (k + y) nil) ≡ true
    by true = refl
    by false = refl

mutual
  pub ground-under : (w : Sub) (t : Tm) → ((y : ℕ) → is_ground (w y) ≡ true) → is_ground (under w t) ≡ true
  ground-under w (var y) h = h y
  ground-under w (num q) h = refl
  ground-under w (app f ts) h = all-ground-under w ts h

  pub all-ground-under : (w : Sub) (ts : Tms) → ((y : ℕ) → is_ground (w y) ≡ true) → are_ground (all_under w ts) ≡ true
  all-ground-under w nil h = refl
  all-ground-under w (cons t ts) h = and_from (is_ground (under w t)) (are_ground (all_under w ts)) (ground-under w t h) (all-ground-under w ts h)

abbrev pub valuation : List Con → (ℕ → Number) → ℕ → Valuation
valuation cs p k = record { of = then_by (resolver cs) (chosen cs p k); ground = λ x. ground-under (chosen cs p k) (resolver cs x) (ground-chosen cs p k) }

-- a part between numbers that the chosen values fit is one that the point fits
part-point : (cs : List Con) (p : ℕ → Number) (k x : ℕ) (t : Tm) → (number_var cs x && is_number_term cs t) ≡ true → chosen cs p k x ≡ under (chosen cs p k) t → p x ≡ read_as p x t
part-point cs p k x (var y) e same =
    let a = and_parts (number_var cs x) (number_var cs y) e in
    let f : num (p x) ≡ num (p y) = sym (chosen-number cs p k x a.0) ∙ same ∙ chosen-number cs p k y a.1 in
    ap number_of f
part-point cs p k x (num q) e same =
    let a = and_parts (number_var cs x) true e in
    let f : num (p x) ≡ num q = sym (chosen-number cs p k x a.0) ∙ same in
    ap number_of f
part-point cs p k x (app g us) e same = absurd (true≢false (sym (and_parts (number_var cs x) false e).1))

parts-point : (cs : List Con) (p : ℕ → Number) (k : ℕ) (ps : List Part) → is_among_numbers cs ps ≡ true → Each (Fits (chosen cs p k)) ps → Each (λ (q : Part). p q.at ≡ read_as p q.at q.term) ps
parts-point cs p k [] e h = tt
parts-point cs p k (q ∷ qs) e h =
    let a = and_parts (number_var cs q.at && is_number_term cs q.term) (is_among_numbers cs qs) e in
    (part-point cs p k q.at q.term a.0 h.0, parts-point cs p k qs a.1 h.1)

apart-by : (cs : List Con) (p : ℕ → Number) (k : ℕ) (c : Con) → PointMeets cs p c → Apart cs (chosen cs p k) c
apart-by cs p k (con.Neq t u) m = by (parts (under (resolver cs) (tm_of t)) (under (resolver cs) (tm_of u))) m
  where
    by : (o : Option (List Part)) → PartsDiffer cs p o → IfParts-apart cs (chosen cs p k) o
    by None m = tt
    by (Some ps) m = λ e h. m e (parts-point cs p k ps e h)
apart-by cs p k (con.Eq t u) m = tt
apart-by cs p k (con.NotShape x f n) m = tt
apart-by cs p k (con.Num t) m = tt
apart-by cs p k (con.NotNum t) m = tt
apart-by cs p k (con.Row r) m = tt

-- constraints of the list all of whose rows are typed among themselves are met
pub some-meets : (some cs : List Con) (p : ℕ → Number) → Each (Contains cs) some → is_typed some ≡ true → fails_by_terms cs ≡ false → Each (PointMeets cs p) cs → Meets (valuation cs p (list_bound (resolver cs) cs)).of some
some-meets some cs p within types e met = list_all-from (holds v) some one
  where
    k : ℕ
    k = list_bound (resolver cs) cs

    v : Sub
    v = then_by (resolver cs) (chosen cs p k)

    terms : (c : Con) → Contains cs c → TermsHold v c
    terms c i = complete cs k (chosen cs p k) e (named-list (resolver cs) k cs (omega arith)) (choice cs p k) (Each-map (PointMeets cs p) (Apart cs (chosen cs p k)) (apart-by cs p k) cs met) c i

    all-count : (ks : List Coeff) → list_all (λ k. counts some k.x) ks ≡ true → Each (λ k. counts cs k.x ≡ true) ks
    all-count [] f = tt
    all-count (j ∷ js) f =
        let a = and_parts (counts some j.x) (list_all (λ k. counts some k.x) js) f in
        (counting some cs j.x within (not-false (unifies cs) (list_any (is_refuted cs) cs) e).0 a.0, all-count js a.1)

    one : (c : Con) → Contains some c → holds v c ≡ true
    one c i = by c (Each-member (Contains cs) some c within i) (list_all-member (is_typed_con some) some c types i)
      where
        by : (c : Con) → Contains cs c → is_typed_con some c ≡ true → holds v c ≡ true
        by (con.Row r) i f = complete-row cs (chosen cs p k) p e (λ y g. ap number_of (chosen-number cs p k y g)) r (all-count r.coeffs f) (Each-member (PointMeets cs p) cs (con.Row r) met i)
        by (con.Eq t u) i f = terms (con.Eq t u) i
        by (con.Neq t u) i f = terms (con.Neq t u) i
        by (con.NotShape x g n) i f = terms (con.NotShape x g n) i
        by (con.Num t) i f = terms (con.Num t) i
        by (con.NotNum t) i f = terms (con.NotNum t) i

some-met : (some cs : List Con) (p : ℕ → Number) → Each (Contains cs) some → is_typed some ≡ true → fails_by_terms cs ≡ false → Each (PointMeets cs p) cs → Sat some
some-met some cs p within types e met = record { by = valuation cs p (list_bound (resolver cs) cs); meets = some-meets some cs p within types e met }

pub sorted-met : (cs : List Con) (p : ℕ → Number) → Sorted cs → fails_by_terms cs ≡ false → Each (PointMeets cs p) cs → Sat cs
sorted-met cs p (apart e) f met = absurd (true≢false (sym (not-false (unifies cs) (list_any (is_refuted cs) cs) f).0 ∙ e))
sorted-met cs p (typed e) f met = some-met cs cs p (Each-self cs) e f met
sorted-met cs p (partly some within e none) f met = absurd (none (some-met some cs p within e f met))

-- ---- and the other way, for every list

num-value : (t : Tm) → is_number t ≡ true → t ≡ num (number_of t)
num-value (var x) e = cc
num-value (num q) e = refl
num-value (app f ts) e = cc

number-by : (cs : List Con) (v : Sub) → Each (TermsHold v) cs → Absorbs v (resolver cs) → (y : ℕ) → number_var cs y ≡ true → v y ≡ num (point v y)
number-by cs v h a y e =
    let d = list_any-member (is_num_of (resolver cs) (var y)) cs e in
    num-value (v y) (num-of (resolver cs) (var y) d.0 d.2 v a (Each-member (TermsHold v) cs d.0 h d.1))

part-value : (cs : List Con) (v : Sub) → Each (TermsHold v) cs → Absorbs v (resolver cs) → (x : ℕ) (t : Tm) → (number_var cs x && is_number_term cs t) ≡ true → point v x ≡ read_as (point v) x t → v x ≡ under v t
part-value cs v h a x (var y) e same =
    let b = and_parts (number_var cs x) (number_var cs y) e in
    number-by cs v h a x b.0 ∙ ap num same ∙ sym (number-by cs v h a y b.1)
part-value cs v h a x (num q) e same = number-by cs v h a x (and_parts (number_var cs x) true e).0 ∙ ap num same
part-value cs v h a x (app g us) e same = absurd (true≢false (sym (and_parts (number_var cs x) false e).1))

parts-value : (cs : List Con) (v : Sub) → Each (TermsHold v) cs → Absorbs v (resolver cs) → (ps : List Part) → is_among_numbers cs ps ≡ true → Each (λ (q : Part). point v q.at ≡ read_as (point v) q.at q.term) ps → Each (Fits v) ps
parts-value cs v h a [] e f = tt
parts-value cs v h a (q ∷ qs) e f =
    let b = and_parts (number_var cs q.at && is_number_term cs q.term) (is_among_numbers cs qs) e in
    (part-value cs v h a q.at q.term b.0 f.0, parts-value cs v h a qs b.1 f.1)

terms-hold : (v : Sub) (c : Con) → holds v c ≡ true → TermsHold v c
terms-hold v (con.Row r) e = tt
terms-hold v (con.Eq t u) e = e
terms-hold v (con.Neq t u) e = e
terms-hold v (con.NotShape x f n) e = e
terms-hold v (con.Num t) e = e
terms-hold v (con.NotNum t) e = e

pub meets-point : (cs : List Con) (v : Sub) → Meets v cs → (fails_by_terms cs ≡ false) × Each (PointMeets cs (point v)) cs
meets-point cs v m = (sound cs v held, Each-from (PointMeets cs (point v)) cs one)
  where
    held : Each (TermsHold v) cs
    held = Each-from (TermsHold v) cs (λ c i. terms-hold v c (list_all-member (holds v) cs c m i))

    absorbs : Absorbs v (resolver cs)
    absorbs = absorbed cs v held

    one : (c : Con) → Contains cs c → PointMeets cs (point v) c
    one (con.Row r) i =
        holds-same (point v) (through (resolver cs) (point v)) r (same r.coeffs) ((bridge v r).0 (list_all-member (holds v) cs (con.Row r) m i))
      where
        same : (ks : List Coeff) → Each (λ k. point v k.x ≡ through (resolver cs) (point v) k.x) ks
        same [] = tt
        same (k ∷ ks) = (sym (point-through v (resolver cs) absorbs k.x), same ks)
    one (con.Neq t u) i = by (parts (under (resolver cs) (tm_of t)) (under (resolver cs) (tm_of u))) (parts-say v (under (resolver cs) (tm_of t)) (under (resolver cs) (tm_of u)))
      where
        by : (o : Option (List Part)) → Says v o (under v (under (resolver cs) (tm_of t)) ≡ under v (under (resolver cs) (tm_of u))) → PartsDiffer cs (point v) o
        by None says = tt
        by (Some ps) says = λ e f.
            (differ_decided (under v (tm_of t)) (under v (tm_of u))).0 (list_all-member (holds v) cs (con.Neq t u) m i)
            (sym (resolved-twice v (resolver cs) (tm_of t) absorbs) ∙ says.1 (parts-value cs v held absorbs ps e f) ∙ resolved-twice v (resolver cs) (tm_of u) absorbs)
    one (con.Eq t u) i = tt
    one (con.NotShape x f n) i = tt
    one (con.Num t) i = tt
    one (con.NotNum t) i = tt
