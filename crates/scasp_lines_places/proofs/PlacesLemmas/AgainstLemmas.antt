-- Parts of a head that wait to be opened, the next ones last.
use Rattle.std.specs.Borrow.{Bor}
use Rattle.std.proofs.Common.{◌≡◌, ◌<◌, ℕ, ◌+◌, ◌*◌, List, [], ◌∷◌, ◌++◌, length, arith, refl, ap, sym, add-one, ◌∙◌}
use Rattle.std.specs.List.{sum_by}
use Rattle.std.proofs.lemmas.List.{nil_from_length}
use Rattle.std.proofs.lemmas.List.Sums.{sum_by-append}
use Rattle.scasp_lines.specs.Openings.{Opening, open_term, open_terms}
use Rattle.scasp_lines_places.specs.Places.Against.{open_given, open_new}
use Rattle.scasp_syntax.specs.Tm.{Tm, Tms, nil, cons, var, items, weight, weight_s}
use Rattle.scasp_syntax.specs.View.{tm_of, tms_of}
use Rattle.scasp_syntax.specs.declared.term.Term.{Term}
use Rattle.scasp_unify.specs.Negations.{new_parts}

-- ---- what waits, whatever it is against

-- what is open once all has been opened
abbrev pub open_later : {A : Type 0} → (A → Opening → Opening) → List A → Opening → Opening
open_later f [] o = o
open_later f (a ∷ fs) o = f a (open_later f fs o)

later-pushed : {A : Type 0} (f : A → Opening → Opening) (fs : List A) (a : A) (o : Opening) → open_later f (fs ++ a ∷ []) o ≡ open_later f fs (f a o)
later-pushed f [] a o = refl
later-pushed f (b ∷ fs) a o = ap (f b) (later-pushed f fs a o)

-- the last of it is open as it stands
over : {A : Type 0} (f : A → Opening → Opening) (fs all : List A) (a : A) (o z : Opening) → all ≡ fs ++ a ∷ [] → f a o ≡ o → open_later f all o ≡ z → open_later f fs o ≡ z
over f fs all a o z e h i = ap (open_later f fs) (sym h) ∙ sym (later-pushed f fs a o) ∙ ap (λ bs. open_later f bs o) (sym e) ∙ i

-- the first of the last was opened but for what is inside, which comes next
first_opened : {A : Type 0} (f : A → Opening → Opening) (fs all more new : List A) (a rest inner : A) (o p q z : Opening)
    → all ≡ fs ++ a ∷ [] → open_later f more q ≡ open_later f fs (f rest q) → new ≡ more ++ inner ∷ [] → f inner p ≡ q → f a o ≡ f rest q
    → open_later f all o ≡ z → open_later f new p ≡ z
first_opened f fs all more new a rest inner o p q z e m n h s i =
    ap (λ bs. open_later f bs p) n ∙ later-pushed f more inner p ∙ ap (open_later f more) h ∙ m
    ∙ ap (open_later f fs) (sym s) ∙ sym (later-pushed f fs a o) ∙ ap (λ bs. open_later f bs o) (sym e) ∙ i

-- none waits
pub none_later : {A : Type 0} (f : A → Opening → Opening) (all : List A) (o z : Opening) → all ≡ [] → open_later f all o ≡ z → o ≡ z
none_later f all o z e i = ap (λ bs. open_later f bs o) (sym e) ∙ i

no_terms : (ts : List Term) → length ts ≡ 0 → tms_of ts ≡ nil
no_terms ts n = ap tms_of (nil_from_length ts n)

ended : (hs : Tms) (o : Opening) → open_terms hs nil o ≡ o
ended nil o = refl
ended (cons h hs) o = refl

-- ---- against parts of the literal

abbrev pub given_work : List (Bor (List Term) × Bor (List Term)) → ℕ
given_work ls = sum_by (λ (l : Bor (List Term) × Bor (List Term)). 1 + 2 * weight_s (tms_of l.0.now)) ls

pub heads_over : (fs all : List (Bor (List Term) × Bor (List Term))) (a : Bor (List Term) × Bor (List Term)) (o z : Opening) → all ≡ fs ++ a ∷ [] → length a.0.now ≡ 0
    → open_later open_given all o ≡ z → open_later open_given fs o ≡ z
heads_over fs all a o z e n i = over open_given fs all a o z e (ap (λ hs. open_terms hs (tms_of a.1.now) o) (no_terms a.0.now n)) i

pub parts_over : (fs all : List (Bor (List Term) × Bor (List Term))) (a : Bor (List Term) × Bor (List Term)) (o z : Opening) → all ≡ fs ++ a ∷ [] → length a.1.now ≡ 0
    → open_later open_given all o ≡ z → open_later open_given fs o ≡ z
parts_over fs all a o z e n i = over open_given fs all a o z e (ap (λ ls. open_terms (tms_of a.0.now) ls o) (no_terms a.1.now n) ∙ ended (tms_of a.0.now) o) i

pub given_opened : (fs all more new : List (Bor (List Term) × Bor (List Term))) (a rest inner : Bor (List Term) × Bor (List Term)) (h l : Term) (o p z : Opening)
    → all ≡ fs ++ a ∷ [] → a.0.now ≡ h ∷ rest.0.now → a.1.now ≡ l ∷ rest.1.now → more ≡ fs ++ rest ∷ [] → new ≡ more ++ inner ∷ []
    → open_given inner p ≡ open_term (tm_of h) (tm_of l) o → open_later open_given all o ≡ z → open_later open_given new p ≡ z
given_opened fs all more new a rest inner h l o p z e s t m n d i =
    let q = open_term (tm_of h) (tm_of l) o in
    first_opened open_given fs all more new a rest inner o p q z e (ap (λ bs. open_later open_given bs q) m ∙ later-pushed open_given fs rest q) n d
    (λ j. open_terms (tms_of (s j)) (tms_of (t j)) o) i

-- ---- against new variables

abbrev pub new_work : List (Bor (List Term) × ℕ) → ℕ
new_work ls = sum_by (λ (l : Bor (List Term) × ℕ). 1 + 2 * weight_s (tms_of l.0.now)) ls

none_against : (hs : List Term) (k : ℕ) (o : Opening) → length hs ≡ 0 → open_terms (tms_of hs) (new_parts k (length (items (tms_of hs)))) o ≡ o
none_against hs k o n = ap (λ ts. open_terms ts (new_parts k (length (items ts))) o) (no_terms hs n)

pub new_over : (fs all : List (Bor (List Term) × ℕ)) (a : Bor (List Term) × ℕ) (o z : Opening) → all ≡ fs ++ a ∷ [] → length a.0.now ≡ 0
    → open_later open_new all o ≡ z → open_later open_new fs o ≡ z
new_over fs all a o z e n i = over open_new fs all a o z e (none_against a.0.now a.1 o n) i

begins : (a : Bor (List Term) × ℕ) (rest : Bor (List Term)) (h : Term) (o : Opening) → a.0.now ≡ h ∷ rest.now
    → open_new a o ≡ open_new (rest, a.1 + 1) (open_term (tm_of h) (var a.1) o)
begins a rest h o s =
    ap (λ (ts : List Term). open_terms (tms_of ts) (new_parts a.1 (length (items (tms_of ts)))) o) s
    ∙ ap (λ k. open_terms (tms_of rest.now) (new_parts k (length (items (tms_of rest.now)))) (open_term (tm_of h) (var a.1) o)) (sym (add-one a.1))

-- more stand behind the first
pub new_opened : (fs all more new : List (Bor (List Term) × ℕ)) (a inner : Bor (List Term) × ℕ) (rest : Bor (List Term)) (h : Term) (o p z : Opening)
    → all ≡ fs ++ a ∷ [] → a.0.now ≡ h ∷ rest.now → more ≡ fs ++ (rest, a.1 + 1) ∷ [] → new ≡ more ++ inner ∷ []
    → open_new inner p ≡ open_term (tm_of h) (var a.1) o → open_later open_new all o ≡ z → open_later open_new new p ≡ z
new_opened fs all more new a inner rest h o p z e s m n d i =
    let q = open_term (tm_of h) (var a.1) o in
    first_opened open_new fs all more new a (rest, a.1 + 1) inner o p q z e (ap (λ bs. open_later open_new bs q) m ∙ later-pushed open_new fs (rest, a.1 + 1) q) n d
    (begins a rest h o s) i
