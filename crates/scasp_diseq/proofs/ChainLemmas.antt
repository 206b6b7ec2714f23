-- Chains of mentions.
use Rattle.std.proofs.Common.{◌≡◌, ℕ, suc, ◌+◌, ◌<◌, ◌≤◌, Bool, true, false, cond, if◌then◌else◌, nat_eq, List, [], ◌∷◌, ◌++◌, length, map, filter, take, Option, None, Some, is_some, slice_get, ◌⊎◌, inl, inr, refl, sym, ap, ◌∙◌, subst, arith}
use Rattle.std.proofs.Math.Seq.{take-append_seam, take-length}
use Rattle.std.proofs.lemmas.Bool.{eq-eqb, eqb-true}
use Rattle.std.proofs.lemmas.List.{length-take, take-append-le}
use Rattle.std.proofs.lemmas.Option.{slice_get_within}
use Rattle.scasp_diseq.specs.Inside.Chains.{Before, IsChained, Leads, later_of, latest_of, places_of, up_to}
use Rattle.scasp_diseq.specs.declared.mentions.Mention.{Mention}
use Rattle.scasp_diseq.proofs.ListLemmas.{front_and_last, front_or_end, slice_get-take, take-take}

-- ---- places

consed : Bool → ℕ → List ℕ → List ℕ
consed b p ps = if b then p ∷ ps else ps

places-consed : (x : ℕ) (n : Mention) (ns : List Mention) → places_of x (n ∷ ns) ≡ (if nat_eq n.variable x then n.place ∷ places_of x ns else places_of x ns)
places-consed x n ns = by (nat_eq n.variable x)
  where
    by : (b : Bool) → map (λ (m : Mention). m.place) (cond b (n ∷ filter (λ m. nat_eq m.variable x) ns) (filter (λ m. nat_eq m.variable x) ns)) ≡ (if b then n.place ∷ places_of x ns else places_of x ns)
    by true = refl
    by false = refl

places-here : (x : ℕ) (n : Mention) (ns : List Mention) → nat_eq n.variable x ≡ true → places_of x (n ∷ ns) ≡ n.place ∷ places_of x ns
places-here x n ns e = places-consed x n ns ∙ ap (λ b. if b then n.place ∷ places_of x ns else places_of x ns) e

places-not_here : (x : ℕ) (n : Mention) (ns : List Mention) → nat_eq n.variable x ≡ false → places_of x (n ∷ ns) ≡ places_of x ns
places-not_here x n ns e = places-consed x n ns ∙ ap (λ b. if b then n.place ∷ places_of x ns else places_of x ns) e

pub places-more : (x : ℕ) (ms : List Mention) (m : Mention) → places_of x (ms ++ m ∷ []) ≡ places_of x ms ++ (if nat_eq m.variable x then m.place ∷ [] else [])
places-more x [] m = places-consed x m []
places-more x (n ∷ ns) m = by (places-more x ns m) (nat_eq n.variable x) refl
  where
    by : places_of x (ns ++ m ∷ []) ≡ places_of x ns ++ (if nat_eq m.variable x then m.place ∷ [] else []) → (b : Bool) → nat_eq n.variable x ≡ b → places_of x (n ∷ (ns ++ m ∷ [])) ≡ places_of x (n ∷ ns) ++ (if nat_eq m.variable x then m.place ∷ [] else [])
    by h true e =
        places-here x n (ns ++ m ∷ []) e ∙ ap (λ ps. n.place ∷ ps) h
        ∙ ap (λ ps. ps ++ (if nat_eq m.variable x then m.place ∷ [] else [])) (sym (places-here x n ns e))
    by h false e =
        places-not_here x n (ns ++ m ∷ []) e ∙ h
        ∙ ap (λ ps. ps ++ (if nat_eq m.variable x then m.place ∷ [] else [])) (sym (places-not_here x n ns e))

-- ---- the latest mention

pub latest-more : (x : ℕ) (ms : List Mention) (m : Mention) → latest_of x (ms ++ m ∷ []) ≡ (if nat_eq m.variable x then Some (length ms) else latest_of x ms)
latest-more x [] m = refl
latest-more x (n ∷ ns) m = ap (λ o. later_of o (nat_eq n.variable x)) (latest-more x ns m) ∙ by (nat_eq m.variable x)
  where
    by : (b : Bool) → later_of (if b then Some (length ns) else latest_of x ns) (nat_eq n.variable x) ≡ (if b then Some (suc (length ns)) else later_of (latest_of x ns) (nat_eq n.variable x))
    by true = refl
    by false = refl

pub latest-none : (x : ℕ) (ms : List Mention) → latest_of x ms ≡ None → places_of x ms ≡ []
latest-none x [] e = refl
latest-none x (n ∷ ns) e = by (latest-none x ns) (latest_of x ns) refl (nat_eq n.variable x) refl e
  where
    by : (latest_of x ns ≡ None → places_of x ns ≡ []) → (o : Option ℕ) → latest_of x ns ≡ o → (b : Bool) → nat_eq n.variable x ≡ b → later_of o b ≡ None → places_of x (n ∷ ns) ≡ []
    by none (Some i) h b g f = cc
    by none None h true g f = cc
    by none None h false g f = places-not_here x n ns g ∙ none h

some≢none : {A : Type 0} {x : A} → Some x ≡ None → ⊥
some≢none e = cc

-- the mention of this number is the latest one of the variable
pub record Found (x at : ℕ) (ms : List Mention) : Type 0 where
  pub mention : Mention
  pub there : slice_get ms at ≡ Some mention
  pub same : mention.variable ≡ x
  pub places : places_of x ms ≡ places_of x (take at ms) ++ mention.place ∷ []

found-later : (x i : ℕ) (n : Mention) (ns : List Mention) → Found x i ns → Found x (suc i) (n ∷ ns)
found-later x i n ns f = record { mention = f.mention; there = f.there; same = f.same; places = by (nat_eq n.variable x) refl }
  where
    by : (b : Bool) → nat_eq n.variable x ≡ b → places_of x (n ∷ ns) ≡ places_of x (n ∷ take i ns) ++ f.mention.place ∷ []
    by true e = places-here x n ns e ∙ ap (λ ps. n.place ∷ ps) f.places ∙ ap (λ ps. ps ++ f.mention.place ∷ []) (sym (places-here x n (take i ns) e))
    by false e = places-not_here x n ns e ∙ f.places ∙ ap (λ ps. ps ++ f.mention.place ∷ []) (sym (places-not_here x n (take i ns) e))

pub latest-found : (x at : ℕ) (ms : List Mention) → latest_of x ms ≡ Some at → Found x at ms
latest-found x at [] e = absurd (some≢none (sym e))
latest-found x at (n ∷ ns) e = by (λ i h. latest-found x i ns h) (latest_of x ns) refl (nat_eq n.variable x) refl e
  where
    by : ((i : ℕ) → latest_of x ns ≡ Some i → Found x i ns) → (o : Option ℕ) → latest_of x ns ≡ o → (b : Bool) → nat_eq n.variable x ≡ b → later_of o b ≡ Some at → Found x at (n ∷ ns)
    by found (Some i) h b g f =
        let k : suc i ≡ at = cc in
        subst (λ k. Found x k (n ∷ ns)) k (found-later x i n ns (found i h))
    by found None h true g f =
        let k : 0 ≡ at = cc in
        subst (λ k. Found x k (n ∷ ns)) k
        (record { mention = n; there = refl; same = eqb-true n.variable x g; places = places-here x n ns g ∙ ap (λ ps. n.place ∷ ps) (latest-none x ns h) })
    by found None h false g f = absurd (some≢none (sym f))

pub latest-within : (x at : ℕ) (ms : List Mention) → latest_of x ms ≡ Some at → at < length ms
latest-within x at ms e = let f = latest-found x at ms e in slice_get_within ms at f.mention f.there

-- ---- one mention more

pub chained-more : (ms : List Mention) (m : Mention) → IsChained ms → m.before ≡ latest_of m.variable ms → IsChained (ms ++ m ∷ [])
chained-more ms m h e i n g = by (front_or_end ms m n i g)
  where
    by : ((i < length ms) × (slice_get ms i ≡ Some n)) ⊎ ((i ≡ length ms) × (n ≡ m)) → n.before ≡ latest_of n.variable (take i (ms ++ m ∷ []))
    by (inl p) = h i n p.1 ∙ ap (latest_of n.variable) (sym (take-append-le i ms (m ∷ []) (omega (arith, p.0))))
    by (inr p) =
        ap (λ (k : Mention). k.before) p.1 ∙ e ∙ ap (λ (k : Mention). latest_of k.variable ms) (sym p.1)
        ∙ ap (latest_of n.variable) (sym (take-append_seam ms (m ∷ [])) ∙ ap (λ k. take k (ms ++ m ∷ [])) (sym p.0))

pub leads-more : (f g : ℕ → Option ℕ) (ms : List Mention) (m : Mention) → Leads f ms → ((x : ℕ) → g x ≡ (if nat_eq m.variable x then Some (length ms) else f x)) → Leads g (ms ++ m ∷ [])
leads-more f g ms m h e x = e x ∙ ap (λ o. if nat_eq m.variable x then Some (length ms) else o) (h x) ∙ sym (latest-more x ms m)

-- ---- the latest mention taken back

pub chained-front : (ms : List Mention) (n : ℕ) → IsChained ms → IsChained (take n ms)
chained-front ms n h i m g =
    let p = slice_get-take ms n i m g in
    h i m p.1 ∙ ap (latest_of m.variable) (sym (take-take ms i n (omega (arith, p.0))))

pub leads-back : (f g : ℕ → Option ℕ) (ms : List Mention) (m : Mention) → Leads f (ms ++ m ∷ []) → m.before ≡ latest_of m.variable ms
    → ((x : ℕ) → g x ≡ (if nat_eq m.variable x then m.before else f x)) → Leads g ms
leads-back f g ms m h b e x = e x ∙ by (nat_eq m.variable x) refl
  where
    by : (q : Bool) → nat_eq m.variable x ≡ q → (if q then m.before else f x) ≡ latest_of x ms
    by true s = b ∙ ap (λ k. latest_of k ms) (eqb-true m.variable x s)
    by false s = h x ∙ latest-more x ms m ∙ ap (λ q. if q then Some (length ms) else latest_of x ms) s

module _ (f : ℕ → Option ℕ) (ms : List Mention) (n : ℕ) (m : Mention) (chained : IsChained ms) (leads : Leads f ms) (there : slice_get ms n ≡ Some m) (last : length ms ≡ n + 1) where
  same : ms ≡ take n ms ++ m ∷ []
  same = front_and_last ms n m there last

  pub latest-there : is_some (f m.variable) ≡ true
  latest-there =
      ap is_some
      (leads m.variable ∙ ap (latest_of m.variable) same ∙ latest-more m.variable (take n ms) m
      ∙ ap (λ b. if b then Some (length (take n ms)) else latest_of m.variable (take n ms)) (eq-eqb m.variable m.variable refl))

  pub all-back : (g : ℕ → Option ℕ) (ns : List Mention) → ns ≡ take n ms → ((x : ℕ) → g x ≡ (if nat_eq m.variable x then m.before else f x)) → IsChained ns × Leads g ns
  all-back g ns e h = (
    subst IsChained (sym e) (chained-front ms n chained),
    subst (Leads g) (sym e) (leads-back f g (take n ms) m (subst (Leads f) same leads) (chained n m there) h),
  )

-- ---- a walk from each mention to the one before it

abbrev pub start : (x : ℕ) (ms : List Mention) (next : Option ℕ) → next ≡ latest_of x ms → Before x ms next
start x ms next e = record { count = length ms; within = omega arith; latest = e ∙ ap (latest_of x) (sym (take-length ms)) }

pub walk-within : (x at : ℕ) (ms : List Mention) (next : Option ℕ) → Before x ms next → next ≡ Some at → at < length ms
walk-within x at ms next b h = omega (arith, latest-within x at (take b.count ms) (sym b.latest ∙ h), length-take b.count ms)

-- one step of it
pub record Walked (x at : ℕ) (ms : List Mention) (count : ℕ) (m : Mention) : Type 0 where
  pub before : Before x ms m.before
  pub places : places_of x (take count ms) ≡ places_of x (take before.count ms) ++ m.place ∷ []
  pub fewer : up_to m.before ≤ at

up_to-latest : (x : ℕ) (ms : List Mention) → up_to (latest_of x ms) ≤ length ms
up_to-latest x ms = by (latest_of x ms) refl
  where
    by : (o : Option ℕ) → latest_of x ms ≡ o → up_to o ≤ length ms
    by None e = omega arith
    by (Some at) e = omega (arith, latest-within x at ms e)

pub walked : (x at : ℕ) (ms : List Mention) (m : Mention) (next : Option ℕ) (b : Before x ms next) → next ≡ Some at → slice_get ms at ≡ Some m → m.before ≡ latest_of m.variable (take at ms) → Walked x at ms b.count m
walked x at ms m next b h g e =
    let f = latest-found x at (take b.count ms) (sym b.latest ∙ h) in
    let there = slice_get-take ms b.count at f.mention f.there in
    let same : f.mention ≡ m = let t : Some f.mention ≡ Some m = sym there.1 ∙ g in cc in
    let latest : m.before ≡ latest_of x (take at ms) = e ∙ ap (λ y. latest_of y (take at ms)) (ap (λ (n : Mention). n.variable) (sym same) ∙ f.same) in
    record {
      before = record { count = at; within = omega (arith, walk-within x at ms next b h); latest = latest };
      places =
          f.places ∙ ap (λ l. places_of x l ++ f.mention.place ∷ []) (take-take ms at b.count (omega (arith, there.0)))
          ∙ ap (λ (n : Mention). places_of x (take at ms) ++ n.place ∷ []) same;
      fewer = omega (arith, ap up_to latest, up_to-latest x (take at ms), length-take at ms);
    }

pub walk-end : (x : ℕ) (ms : List Mention) (next : Option ℕ) (b : Before x ms next) → next ≡ None → places_of x (take b.count ms) ≡ []
walk-end x ms next b h = latest-none x (take b.count ms) (sym b.latest ∙ h)
