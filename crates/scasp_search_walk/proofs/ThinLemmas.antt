-- The first event of a search without silent states.
use Rattle.std.specs.Prelude.{◌≡◌, ℕ, ◌+◌, zero, suc, nat_eq, Bool, true, false, ◌&&◌, ◌||◌, Option, None, Some, List, [], ◌∷◌, ◌++◌, refl}
use Rattle.std.proofs.Common.{arith, ap, sym, subst, ◌∙◌}
use Rattle.scasp_search_rules.specs.Successors.Machine.{Found, Machine, behind, cost, ended, first_event, outcome_of, pick, spent}
use Rattle.scasp_search_walk.specs.Thin.{IsSilent, others, thin, thinned}
use Rattle.scasp_search_walk.proofs.ReachedLemmas.{or-false}

joined : {S : Type 0} (silent : S → Bool) (xs ys : List S) → others silent (xs ++ ys) ≡ others silent xs ++ others silent ys
joined silent [] ys = refl
joined silent (x ∷ xs) ys = by (silent x) refl (joined silent xs ys)
  where
    by : (b : Bool) → silent x ≡ b → others silent (xs ++ ys) ≡ others silent xs ++ others silent ys
        → others silent ((x ∷ xs) ++ ys) ≡ others silent (x ∷ xs) ++ others silent ys
    by true e h = rw e h
    by false e h = rw e (ap (λ zs. x ∷ zs) h)

abbrev Meets : {S A : Type 0} (m : Machine S A) (silent : S → Bool) (budget calls : ℕ) (may : Bool) (states : List S) (found : Found S A) → Type 0
Meets m silent budget calls may states found = (k : ℕ) × (first_event (thin silent m) budget k (others silent states) calls may ≡ Some (thinned silent found))

-- a silent state is passed over
passed : {S A : Type 0} (m : Machine S A) (silent : S → Bool) → IsSilent m silent → (budget n calls : ℕ) (may : Bool) (s : S) (states : List S) → silent s ≡ true
    → first_event m budget (suc n) (s ∷ states) calls may ≡ first_event m budget n states calls may
unfolding first_event
passed m silent is budget n calls may s states e =
    let plus : calls + 0 ≡ calls = omega arith in
    rw (is.answer s e, is.pays s e, is.asks s e, is.next s e) (ap (λ k. first_event m budget n states k (may || false)) plus ∙ ap (first_event m budget n states calls) (sym (or-false may)))

picked : {S A : Type 0} (answer : Option (Option A)) (over : Bool) (at more : Option A → Found S A) (last end : Found S A) (later : Option (Found S A)) (steps : ℕ → Option (Found S A))
    (found : Found S A) (f : Found S A → Found S A) → pick answer over at last later ≡ Some found → ((a : Option A) → more a ≡ f (at a)) → end ≡ f last
    → (later ≡ Some found → (k : ℕ) × (steps k ≡ Some (f found))) → (k : ℕ) × (pick answer over more end (steps k) ≡ Some (f found))
picked (Some a) over at more last end later steps found f h e l g = let i : at a ≡ found = cc h in (0, ap Some (e a ∙ ap f i))
picked None true at more last end later steps found f h e l g = let i : last ≡ found = cc h in (0, ap Some (l ∙ ap f i))
picked None false at more last end later steps found f h e l g = g h

-- a state that is not silent is met by both
here : {S A : Type 0} (m : Machine S A) (silent : S → Bool) (budget n calls : ℕ) (may : Bool) (s : S) (states : List S) (found : Found S A) → silent s ≡ false
    → first_event m budget (suc n) (s ∷ states) calls may ≡ Some found
    → (first_event m budget n (m.next s ++ states) (calls + cost (m.pays s)) (may || m.asks s) ≡ Some found
    → Meets m silent budget (calls + cost (m.pays s)) (may || m.asks s) (m.next s ++ states) found)
    → Meets m silent budget calls may (s ∷ states) found
unfolding first_event
here {S} {A} m silent budget n calls may s states found e h go =
    let first : others silent (s ∷ states) ≡ s ∷ others silent states = rw e refl in
    let r = picked (m.answer s) (m.pays s && nat_eq calls budget)
    (λ a. record { event = outcome_of a; calls = calls; may = may || m.asks s; rest = behind a s states })
    (λ a. record { event = outcome_of a; calls = calls; may = may || m.asks s; rest = behind a s (others silent states) })
    (record { event = spent; calls = calls; may = may; rest = s ∷ states })
    (record { event = spent; calls = calls; may = may; rest = s ∷ others silent states })
    (first_event m budget n (m.next s ++ states) (calls + cost (m.pays s)) (may || m.asks s))
    (λ k. first_event (thin silent m) budget k (others silent (m.next s) ++ others silent states) (calls + cost (m.pays s)) (may || m.asks s))
    found (thinned silent) h same (ap at_end (sym first))
    (λ g. let w = go g in
    (w.0, subst (λ ss. first_event (thin silent m) budget w.0 ss (calls + cost (m.pays s)) (may || m.asks s) ≡ Some (thinned silent found)) (joined silent (m.next s) states) w.1)) in
    subst (λ ss. (k : ℕ) × (first_event (thin silent m) budget k ss calls may ≡ Some (thinned silent found))) (sym first) (suc r.0, r.1)
  where
    at_end : List S → Found S A
    at_end rest = record { event = spent; calls = calls; may = may; rest = rest }

    same : (a : Option A) → record { event = outcome_of a; calls = calls; may = may || m.asks s; rest = behind a s (others silent states) }
        ≡ thinned silent (record { event = outcome_of a; calls = calls; may = may || m.asks s; rest = behind a s states })
    same (Some a) = refl
    same None = rw e refl

pub met : {S A : Type 0} (m : Machine S A) (silent : S → Bool) → IsSilent m silent → (budget n calls : ℕ) (may : Bool) (states : List S) (found : Found S A)
    → first_event m budget n states calls may ≡ Some found → Meets m silent budget calls may states found
unfolding first_event
met m silent is budget zero calls may states found h = absurd (cc h)
met {S} {A} m silent is budget (suc n) calls may [] found h =
    let one : Found S A = record { event = ended; calls = calls; may = may; rest = [] } in
    let i : one ≡ found = cc h in rw (← i) (1, refl)
met {S} {A} m silent is budget (suc n) calls may (s ∷ states) found h =
    by (silent s) refl (λ e. met m silent is budget n calls may states found (sym (passed m silent is budget n calls may s states e) ∙ h))
    (λ e. here m silent budget n calls may s states found e h (met m silent is budget n (calls + cost (m.pays s)) (may || m.asks s) (m.next s ++ states) found))
  where
    by : (b : Bool) → silent s ≡ b → (silent s ≡ true → Meets m silent budget calls may states found) → (silent s ≡ false → Meets m silent budget calls may (s ∷ states) found)
        → Meets m silent budget calls may (s ∷ states) found
    by true e skip go = rw e (skip e)
    by false e skip go = go e

-- ---- and back

abbrev Behind : {S A : Type 0} (m : Machine S A) (silent : S → Bool) (budget calls : ℕ) (may : Bool) (states : List S) (f : Found S A) → Type 0
Behind {S} {A} m silent budget calls may states f = (k : ℕ) × (found : Found S A) × (first_event m budget k states calls may ≡ Some found) × (thinned silent found ≡ f)

picked-back : {S A : Type 0} (answer : Option (Option A)) (over : Bool) (at more : Option A → Found S A) (last end : Found S A) (later : Option (Found S A)) (steps : ℕ → Option (Found S A))
    (f : Found S A) (of : Found S A → Found S A) → pick answer over more end later ≡ Some f → ((a : Option A) → more a ≡ of (at a)) → end ≡ of last
    → (later ≡ Some f → (k : ℕ) × (found : Found S A) × (steps k ≡ Some found) × (of found ≡ f))
    → (k : ℕ) × (found : Found S A) × (pick answer over at last (steps k) ≡ Some found) × (of found ≡ f)
picked-back (Some a) over at more last end later steps f of h e l g = let i : more a ≡ f = cc h in (0, at a, refl, sym (e a) ∙ i)
picked-back None true at more last end later steps f of h e l g = let i : end ≡ f = cc h in (0, last, refl, sym l ∙ i)
picked-back None false at more last end later steps f of h e l g = g h

here-back : {S A : Type 0} (m : Machine S A) (silent : S → Bool) (budget n calls : ℕ) (may : Bool) (s : S) (states : List S) (f : Found S A) → silent s ≡ false
    → first_event (thin silent m) budget (suc n) (others silent (s ∷ states)) calls may ≡ Some f
    → (first_event (thin silent m) budget n (others silent (m.next s ++ states)) (calls + cost (m.pays s)) (may || m.asks s) ≡ Some f
    → Behind m silent budget (calls + cost (m.pays s)) (may || m.asks s) (m.next s ++ states) f)
    → Behind m silent budget calls may (s ∷ states) f
unfolding first_event
here-back {S} {A} m silent budget n calls may s states f e h go =
    let first : others silent (s ∷ states) ≡ s ∷ others silent states = rw e refl in
    let h2 = subst (λ ss. first_event (thin silent m) budget (suc n) ss calls may ≡ Some f) first h in
    let r = picked-back (m.answer s) (m.pays s && nat_eq calls budget)
    (λ a. record { event = outcome_of a; calls = calls; may = may || m.asks s; rest = behind a s states })
    (λ a. record { event = outcome_of a; calls = calls; may = may || m.asks s; rest = behind a s (others silent states) })
    (record { event = spent; calls = calls; may = may; rest = s ∷ states })
    (record { event = spent; calls = calls; may = may; rest = s ∷ others silent states })
    (first_event (thin silent m) budget n (others silent (m.next s) ++ others silent states) (calls + cost (m.pays s)) (may || m.asks s))
    (λ k. first_event m budget k (m.next s ++ states) (calls + cost (m.pays s)) (may || m.asks s))
    f (thinned silent) h2 same (ap at_end (sym first))
    (λ g. go (subst (λ ss. first_event (thin silent m) budget n ss (calls + cost (m.pays s)) (may || m.asks s) ≡ Some f) (sym (joined silent (m.next s) states)) g)) in
    (suc r.0, r.1, r.2, r.3)
  where
    at_end : List S → Found S A
    at_end rest = record { event = spent; calls = calls; may = may; rest = rest }

    same : (a : Option A) → record { event = outcome_of a; calls = calls; may = may || m.asks s; rest = behind a s (others silent states) }
        ≡ thinned silent (record { event = outcome_of a; calls = calls; may = may || m.asks s; rest = behind a s states })
    same (Some a) = refl
    same None = rw e refl

abbrev Back : {S A : Type 0} (m : Machine S A) (silent : S → Bool) (budget n : ℕ) → Type 0
Back {S} {A} m silent budget n =
    (calls : ℕ) (may : Bool) (states : List S) (f : Found S A) → first_event (thin silent m) budget n (others silent states) calls may ≡ Some f → Behind m silent budget calls may states f

one-more : {S A : Type 0} (m : Machine S A) (silent : S → Bool) → IsSilent m silent → (budget n : ℕ) → Back m silent budget n → Back m silent budget (suc n)
unfolding first_event
one-more {S} {A} m silent is budget n earlier calls may [] f h =
    let one : Found S A = record { event = ended; calls = calls; may = may; rest = [] } in
    let i : one ≡ f = cc h in (1, one, refl, i)
one-more m silent is budget n earlier calls may (s ∷ states) f h =
    by (silent s) refl (λ e. let r = one-more m silent is budget n earlier calls may states f (subst (λ ss. first_event (thin silent m) budget (suc n) ss calls may ≡ Some f) (left-out e) h) in
    (suc r.0, r.1, passed m silent is budget r.0 calls may s states e ∙ r.2, r.3))
    (λ e. here-back m silent budget n calls may s states f e h (earlier (calls + cost (m.pays s)) (may || m.asks s) (m.next s ++ states) f))
  where
    left-out : silent s ≡ true → others silent (s ∷ states) ≡ others silent states
    left-out e = rw e refl

    by : (b : Bool) → silent s ≡ b → (silent s ≡ true → Behind m silent budget calls may (s ∷ states) f) → (silent s ≡ false → Behind m silent budget calls may (s ∷ states) f)
        → Behind m silent budget calls may (s ∷ states) f
    by true e skip go = skip e
    by false e skip go = go e

pub met-back : {S A : Type 0} (m : Machine S A) (silent : S → Bool) → IsSilent m silent → (budget n : ℕ) → Back m silent budget n
unfolding first_event
met-back m silent is budget zero calls may states f h = absurd (cc h)
met-back m silent is budget (suc n) calls may states f h = one-more m silent is budget n (met-back m silent is budget n) calls may states f h
