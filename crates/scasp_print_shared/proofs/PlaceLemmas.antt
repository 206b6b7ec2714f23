-- The least copy among the lines of one class.
use Rattle.std.proofs.Common.{◌≡◌, ℕ, zero, suc, ◌+◌, ◌<◌, ◌≤◌, ◌∙◌, Bool, true, false, List, [], ◌∷◌, ◌++◌, length, get_or, set, take, refl, sym, ap, arith, append-nil}
use Rattle.smallvec.specs.SmallVec.{SmallVec}
use Rattle.std.specs.Prelude.{◌==◌, if◌then◌else◌}
use Rattle.std.proofs.lemmas.Bool.{true≢false, eq-eqb, eqb-true, eqb-false, ne_eqb, cond-true, cond-false}
use Rattle.std.proofs.lemmas.List.{length-take-le, take_more}
use Rattle.scasp_print_shared.specs.Shared.{least}
use Rattle.scasp_print_shared.specs.Inside.Places.{first_among, listed, places_of}
use Rattle.scasp_print_shared.specs.declared.classes.Root.{Root}

-- where the test holds at lines of one class alone, the others may be left out
pub first-of : (holds : ℕ → Bool) (class n : ℕ) (ms : List Root) (d : Root)
    → ((j : ℕ) → j < length ms → holds (n + j + 1) ≡ true → (get_or ms j d).class ≡ class)
    → least holds (n + 1) (length ms) ≡ first_among holds (places_of class n ms)
first-of holds class n [] d h = refl
first-of holds class n (m ∷ ms) d h =
    by (m.class == class) refl (holds (n + 1)) refl
    (first-of holds class (n + 1) ms d (λ j l t. h (suc j) (omega (arith, l)) (ap holds (later j) ∙ t)))
  where
    later : (j : ℕ) → n + suc j + 1 ≡ n + 1 + j + 1
    later j = omega arith

    by : (a : Bool) → (m.class == class) ≡ a → (b : Bool) → holds (n + 1) ≡ b → least holds (n + 1 + 1) (length ms) ≡ first_among holds (places_of class (n + 1) ms)
        → least holds (n + 1) (length (m ∷ ms)) ≡ first_among holds (places_of class n (m ∷ ms))
    by true p true q ih = simp (p, q) refl
    by true p false q ih = simp (p, q) ih
    by false p true q ih =
        let e : n + 0 + 1 ≡ n + 1 = omega arith in
        let c : m.class ≡ class = h 0 (omega arith) (ap holds e ∙ q) in
        absurd (true≢false (sym (eq-eqb m.class class c) ∙ p))
    by false p false q ih = simp (p, q) ih

pub places-push : (class n : ℕ) (ms : List Root) (m : Root)
    → places_of class n (ms ++ m ∷ []) ≡ places_of class n ms ++ (if m.class == class then (n + length ms) ∷ [] else [])
places-push class n [] m =
    let e : n ≡ n + 0 = omega arith in
    ap (λ k. if m.class == class then k ∷ [] else []) e
places-push class n (x ∷ ms) m = by (x.class == class) refl (places-push class (n + 1) ms m)
  where
    by : (a : Bool) → (x.class == class) ≡ a → places_of class (n + 1) (ms ++ m ∷ []) ≡ places_of class (n + 1) ms ++ (if m.class == class then (n + 1 + length ms) ∷ [] else [])
        → places_of class n ((x ∷ ms) ++ m ∷ []) ≡ places_of class n (x ∷ ms) ++ (if m.class == class then (n + suc (length ms)) ∷ [] else [])
    by true p ih =
        let e : n + 1 + length ms ≡ n + suc (length ms) = omega arith in
        cond-true (x.class == class) (n ∷ places_of class (n + 1) (ms ++ m ∷ [])) (places_of class (n + 1) (ms ++ m ∷ [])) p
        ∙ ap (λ z. n ∷ z) ih
        ∙ ap (λ k. (n ∷ places_of class (n + 1) ms) ++ (if m.class == class then k ∷ [] else [])) e
        ∙ ap (λ z. z ++ (if m.class == class then (n + suc (length ms)) ∷ [] else [])) (sym (cond-true (x.class == class) (n ∷ places_of class (n + 1) ms) (places_of class (n + 1) ms) p))
    by false p ih =
        let e : n + 1 + length ms ≡ n + suc (length ms) = omega arith in
        cond-false (x.class == class) (n ∷ places_of class (n + 1) (ms ++ m ∷ [])) (places_of class (n + 1) (ms ++ m ∷ [])) p
        ∙ ih
        ∙ ap (λ k. places_of class (n + 1) ms ++ (if m.class == class then k ∷ [] else [])) e
        ∙ ap (λ z. z ++ (if m.class == class then (n + suc (length ms)) ∷ [] else [])) (sym (cond-false (x.class == class) (n ∷ places_of class (n + 1) ms) (places_of class (n + 1) ms) p))

cons-within : (n bound d : ℕ) (ns : List ℕ) → n < bound → ((i : ℕ) → i < length ns → get_or ns i d < bound) → (i : ℕ) → i < length (n ∷ ns) → get_or (n ∷ ns) i d < bound
cons-within n bound d ns h f zero g = h
cons-within n bound d ns h f (suc i) g = f i (omega (arith, g))

-- the lines of a class are among those that were told
pub places-within : (class n : ℕ) (ms : List Root) (d i : ℕ) → i < length (places_of class n ms) → get_or (places_of class n ms) i d < n + length ms
places-within class n [] d i h = absurd (omega (arith, h))
places-within class n (m ∷ ms) d i h = by (m.class == class) refl (λ k g. places-within class (n + 1) ms d k g) i h
  where
    by : (a : Bool) → (m.class == class) ≡ a → ((k : ℕ) → k < length (places_of class (n + 1) ms) → get_or (places_of class (n + 1) ms) k d < n + 1 + length ms)
        → (k : ℕ) → k < length (places_of class n (m ∷ ms)) → get_or (places_of class n (m ∷ ms)) k d < n + suc (length ms)
    by true p ih = rw p (cons-within n (n + suc (length ms)) d (places_of class (n + 1) ms) (omega arith) (λ k g. let b = ih k g in omega (arith, b)))
    by false p ih = rw p (λ k g. let b = ih k g in omega (arith, b))

-- ---- a list of lists

pub listed-at : (lists : List (SmallVec ℕ)) (class : ℕ) (v : SmallVec ℕ) → class < length lists → v ≡ get_or lists class v → listed lists class ≡ v.items
listed-at [] class v h e = absurd (omega (arith, h))
listed-at (l ∷ lists) zero v h e = ap (λ (x : SmallVec ℕ). x.items) (sym e)
listed-at (l ∷ lists) (suc class) v h e = listed-at lists class v (omega (arith, h)) e

pub listed-past : (lists : List (SmallVec ℕ)) (class : ℕ) → length lists ≤ class → listed lists class ≡ []
listed-past [] class h = refl
listed-past (l ∷ lists) zero h = absurd (omega (arith, h))
listed-past (l ∷ lists) (suc class) h = listed-past lists class (omega (arith, h))

-- an empty list more
pub listed-more : (lists : List (SmallVec ℕ)) (v : SmallVec ℕ) (class : ℕ) → v.items ≡ [] → listed (lists ++ v ∷ []) class ≡ listed lists class
listed-more [] v zero e = e
listed-more [] v (suc class) e = refl
listed-more (l ∷ lists) v zero e = refl
listed-more (l ∷ lists) v (suc class) e = listed-more lists v class e

-- a line more in one list
pub listed-set : (lists : List (SmallVec ℕ)) (v : SmallVec ℕ) (class other line : ℕ) → class < length lists → v.items ≡ listed lists class ++ line ∷ []
    → listed (set lists class v) other ≡ listed lists other ++ (if class == other then line ∷ [] else [])
listed-set [] v class other line h e = absurd (omega (arith, h))
listed-set (l ∷ lists) v zero zero line h e = e
listed-set (l ∷ lists) v zero (suc other) line h e =
    sym (ap (λ b. listed lists other ++ (if b then line ∷ [] else [])) (ne_eqb 0 (suc other) (λ k. omega (arith, k))) ∙ append-nil (listed lists other))
listed-set (l ∷ lists) v (suc class) zero line h e =
    sym (ap (λ b. l.items ++ (if b then line ∷ [] else [])) (ne_eqb (suc class) 0 (λ k. omega (arith, k))) ∙ append-nil l.items)
listed-set (l ∷ lists) v (suc class) (suc other) line h e =
    listed-set lists v class other line (omega (arith, h)) e ∙ ap (λ b. listed lists other ++ (if b then line ∷ [] else [])) (eq-suc class other)
  where
    eq-suc : (a b : ℕ) → (a == b) ≡ (suc a == suc b)
    eq-suc a b = by (a == b) refl
      where
        by : (t : Bool) → (a == b) ≡ t → t ≡ (suc a == suc b)
        by true q = let s = eqb-true a b q in sym (eq-eqb (suc a) (suc b) (ap suc s))
        by false q = let s = eqb-false a b q in sym (ne_eqb (suc a) (suc b) (λ k. s (omega (arith, k))))

-- a line more is told
pub places-next : (lists new : List (SmallVec ℕ)) (ms : List Root) (k : ℕ) (r : Root) → k < length ms → r ≡ get_or ms k r
    → ((class : ℕ) → listed lists class ≡ places_of class 0 (take k ms))
    → ((other : ℕ) → listed new other ≡ listed lists other ++ (if r.class == other then k ∷ [] else []))
    → (class : ℕ) → listed new class ≡ places_of class 0 (take (k + 1) ms)
places-next lists new ms k r h at old added class =
    let size : k ≡ 0 + length (take k ms) = (let l = length-take-le k ms (omega (arith, h)) in omega (arith, l)) in
    added class
    ∙ (λ i. old class i ++ (if r.class == class then size i ∷ [] else []))
    ∙ sym (places-push class 0 (take k ms) r)
    ∙ ap (places_of class 0) (ap (λ x. take k ms ++ x ∷ []) at ∙ sym (take_more ms k r h))
