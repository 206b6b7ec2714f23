-- The search of a variable in a term as bindings resolve it, with a list of what is still to be done.
use Rattle.std.proofs.Common.{◌≡◌, ℕ, ◌+◌, ◌*◌, ◌<◌, Bool, true, false, ◌&&◌, ◌||◌, List, [], ◌∷◌, ◌++◌, map, subst, refl, sym, ap, ◌∙◌, arith}
use Rattle.std.specs.List.{list_any, list_all}
use Rattle.std.proofs.lemmas.Bool.{and_parts}
use Rattle.std.proofs.lemmas.List.{append-nil, map-append}
use Rattle.std.proofs.lemmas.List.Folds.{list_all-append, list_any-append}
use Rattle.std.proofs.lemmas.List.Sums.{sum_by-append}
use Rattle.scasp_syntax.specs.Tm.{Tm, Tms, var, num, app, nil, cons, items, weight, weight_s}
use Rattle.scasp_syntax.specs.Values.{Sub, under, all_under}
use Rattle.scasp_syntax.specs.WellFormed.{is_below, are_below}
use Rattle.scasp_unify.specs.Parts.{occurs, occurs_among}
use Rattle.scasp_bind.specs.Inside.Jobs.{AreOpen, Job, Spreads, has, is_job_below, job_of, jobs_of, leave, load, load_of, search}
use Rattle.scasp_bind.specs.declared.occurrences.Task.{Task}

pub jobs_of-push : (ts : List Task) (t : Task) → jobs_of (ts ++ t ∷ []) ≡ jobs_of ts ++ job_of t ∷ []
jobs_of-push ts t = map-append job_of ts (t ∷ [])

-- ---- jobs in place of the latest ones

pub open-swapped : (x : ℕ) (s : Sub) (before old new : List Job) → list_any (has x s) new ≡ list_any (has x s) old → AreOpen x s new → AreOpen x s (before ++ old) → AreOpen x s (before ++ new)
open-swapped x s [] old new e g h = g
open-swapped x s (search t ∷ js) old new e g h = open-swapped x s js old new e g h
open-swapped x s (leave t ∷ js) old new e g h =
    (h.0 ∙ list_any-append (has x s) js old ∙ ap (λ b. list_any (has x s) js || b) (sym e) ∙ sym (list_any-append (has x s) js new), open-swapped x s js old new e g h.1)

or-false : (b : Bool) → (b || false) ≡ b
or-false true = refl
or-false false = refl

below-swapped : (n : ℕ) (before old new : List Job) → list_all (is_job_below n) new ≡ true → list_all (is_job_below n) (before ++ old) ≡ true → list_all (is_job_below n) (before ++ new) ≡ true
below-swapped n before old new g h =
    let p = and_parts (list_all (is_job_below n) before) (list_all (is_job_below n) old) (sym (list_all-append (is_job_below n) before old) ∙ h) in
    list_all-append (is_job_below n) before new ∙ ap (λ b. b && list_all (is_job_below n) new) p.0 ∙ g

-- what is kept of all that is to be done
pub record IsKept (n x : ℕ) (s : Sub) (z : Bool) (js : List Job) : Type 0 where
  pub same : list_any (has x s) js ≡ z
  pub open_ : AreOpen x s js
  pub below : list_all (is_job_below n) js ≡ true

-- a term was searched
pub searched : (n x : ℕ) (s : Sub) (z : Bool) (t : Tm) (before last next : List Job) → last ≡ before ++ search t ∷ [] → Spreads n x s t before next → IsKept n x s z last → IsKept n x s z next
searched n x s z t before last next e p k = rw p.added (record {
  same =
      list_any-append (has x s) before p.more ∙ ap (λ b. list_any (has x s) before || b) (p.same ∙ sym (or-false (occurs x (under s t))))
      ∙ sym (list_any-append (has x s) before (search t ∷ [])) ∙ ap (list_any (has x s)) (sym e) ∙ k.same;
  open_ = open-swapped x s before (search t ∷ []) p.more (p.same ∙ sym (or-false (occurs x (under s t)))) p.open_ (rw (← e) k.open_);
  below = below-swapped n before (search t ∷ []) p.more p.below (rw (← e) k.below);
})

pub searched_lighter : (n x : ℕ) (s : Sub) (t : Tm) (before last next : List Job) → last ≡ before ++ search t ∷ [] → Spreads n x s t before next → load s next < load s last
searched_lighter n x s t before last next e p =
    omega (arith, ap (load s) e, ap (load s) p.added, sum_by-append (load_of s) before (search t ∷ []), sum_by-append (load_of s) before p.more, p.lighter)

-- the variable was found
pub found_there : (x : ℕ) (s : Sub) (z : Bool) (t : Tm) (before last : List Job) → last ≡ before ++ search t ∷ [] → occurs x (under s t) ≡ true → list_any (has x s) last ≡ z → true ≡ z
found_there x s z t before last e o k =
    sym (or-true (list_any (has x s) before)) ∙ ap (λ b. list_any (has x s) before || b) (sym (or-false (occurs x (under s t)) ∙ o))
    ∙ sym (list_any-append (has x s) before (search t ∷ [])) ∙ ap (list_any (has x s)) (sym e) ∙ k
  where
    or-true : (b : Bool) → (b || true) ≡ true
    or-true true = refl
    or-true false = refl

-- ---- a term is left

open-last : (x : ℕ) (s : Sub) (before : List Job) (t : Tm) → AreOpen x s (before ++ leave t ∷ []) → occurs x (under s t) ≡ false
open-last x s [] t h = h.0
open-last x s (search u ∷ js) t h = open-last x s js t h
open-last x s (leave u ∷ js) t h = open-last x s js t h.1

pub left_without : (n x : ℕ) (s : Sub) (z : Bool) (t : Tm) (before last : List Job) → last ≡ before ++ leave t ∷ [] → IsKept n x s z last → occurs x (under s t) ≡ false
left_without n x s z t before last e k = open-last x s before t (rw (← e) k.open_)

pub left_below : (n x : ℕ) (s : Sub) (z : Bool) (t : Tm) (before last : List Job) → last ≡ before ++ leave t ∷ [] → IsKept n x s z last → is_below n t ≡ true
left_below n x s z t before last e k =
    let p = and_parts (list_all (is_job_below n) before) (is_below n t && true) (sym (list_all-append (is_job_below n) before (leave t ∷ [])) ∙ ap (list_all (is_job_below n)) (sym e) ∙ k.below) in
    (and_parts (is_below n t) true p.1).0

pub search_below : (n x : ℕ) (s : Sub) (z : Bool) (t : Tm) (before last : List Job) → last ≡ before ++ search t ∷ [] → IsKept n x s z last → is_below n t ≡ true
search_below n x s z t before last e k =
    let p = and_parts (list_all (is_job_below n) before) (is_below n t && true) (sym (list_all-append (is_job_below n) before (search t ∷ [])) ∙ ap (list_all (is_job_below n)) (sym e) ∙ k.below) in
    (and_parts (is_below n t) true p.1).0

pub left : (n x : ℕ) (s : Sub) (z : Bool) (t : Tm) (before last : List Job) → last ≡ before ++ leave t ∷ [] → IsKept n x s z last → IsKept n x s z before
left n x s z t before last e k =
    let all : IsKept n x s z (before ++ []) = record {
      same =
          list_any-append (has x s) before [] ∙ sym (list_any-append (has x s) before (leave t ∷ [])) ∙ ap (list_any (has x s)) (sym e) ∙ k.same;
      open_ = open-swapped x s before (leave t ∷ []) [] refl tt (rw (← e) k.open_);
      below = below-swapped n before (leave t ∷ []) [] refl (rw (← e) k.below);
    } in
    subst (IsKept n x s z) (append-nil before) all

pub left_lighter : (s : Sub) (t : Tm) (before last : List Job) → last ≡ before ++ leave t ∷ [] → load s before < load s last
left_lighter s t before last e = omega (arith, ap (load s) e, sum_by-append (load_of s) before (leave t ∷ []))

-- ---- what the search of a term comes to

heavy : (t : Tm) → 0 < weight t
heavy (var x) = omega arith
heavy (num q) = omega arith
heavy (app f ts) = omega arith

-- it has not the variable
pub spreads_none : (n x : ℕ) (s : Sub) (t : Tm) (before after : List Job) → after ≡ before → occurs x (under s t) ≡ false → Spreads n x s t before after
spreads_none n x s t before after e o = record {
  more = [];
  added = e ∙ sym (append-nil before);
  same = sym o;
  open_ = tt;
  below = refl;
  lighter = omega (arith, heavy (under s t));
}

any-searches : (x : ℕ) (s : Sub) (ts : Tms) → list_any (has x s) (map search (items ts)) ≡ occurs_among x (all_under s ts)
any-searches x s nil = refl
any-searches x s (cons t ts) = ap (λ b. occurs x (under s t) || b) (any-searches x s ts)

open-searches : (x : ℕ) (s : Sub) (ts : Tms) → AreOpen x s (map search (items ts))
open-searches x s nil = tt
open-searches x s (cons t ts) = open-searches x s ts

below-searches : (n : ℕ) (ts : Tms) → list_all (is_job_below n) (map search (items ts)) ≡ are_below n ts
below-searches n nil = refl
below-searches n (cons t ts) = ap (λ b. is_below n t && b) (below-searches n ts)

load-searches : (s : Sub) (ts : Tms) → load s (map search (items ts)) ≡ 2 * weight_s (all_under s ts)
load-searches s nil = refl
load-searches s (cons t ts) = sum_by-append (load_of s) (search t ∷ []) (map search (items ts)) ∙ (omega (arith, load-searches s ts))

-- it leads to a name, of which the arguments are to be searched
pub spreads_app : (n x f : ℕ) (s : Sub) (t u : Tm) (ts : Tms) (before after : List Job) → after ≡ before ++ leave t ∷ map search (items ts) → u ≡ app f ts → under s u ≡ under s t
    → is_below n t ≡ true → is_below n u ≡ true → Spreads n x s t before after
spreads_app n x f s t u ts before after e a h below under_ =
    let same : list_any (has x s) (map search (items ts)) ≡ occurs x (under s t) = any-searches x s ts ∙ ap (λ v. occurs x (under s v)) (sym a) ∙ ap (occurs x) h in
    let known : list_all (is_job_below n) (map search (items ts)) ≡ true = below-searches n ts ∙ ap (is_below n) (sym a) ∙ under_ in
    let heft : weight (under s t) ≡ 1 + weight_s (all_under s ts) = ap weight (sym h) ∙ ap (λ v. weight (under s v)) a in
    record {
      more = leave t ∷ map search (items ts);
      added = e;
      same = same;
      open_ = (sym same, open-searches x s ts);
      below = ap (λ b. b && list_all (is_job_below n) (map search (items ts))) below ∙ known;
      lighter = omega (arith, sum_by-append (load_of s) (leave t ∷ []) (map search (items ts)), load-searches s ts, heft);
    }
