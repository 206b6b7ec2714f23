-- The search of a number, where the sessions change.
use Rattle.std.specs.Prelude.{◌≡◌, ◌≢◌, ◌⊎◌, ℕ, ◌<◌, ◌≤◌, ◌==◌, Bool, true, false, if◌then◌else◌, List, [], ◌∷◌, ◌++◌, Some, ⊤, refl}
use Rattle.std.proofs.Common.{ap, arith, eq-eqb, eqb-true, inl, inr, sym, ◌∙◌}
use Rattle.std.proofs.lemmas.Bool.Decides.{eqb_tells}
use Rattle.scasp_search.specs.declared.search.Search.{Search}
use Rattle.scasp_sessions.specs.Tables.{has_number, search_of, with_search, without}
use Rattle.scasp_sessions.specs.declared.session.Session.{Session}

-- ---- numbers

pub same-number : (n : ℕ) → (n == n) ≡ true
same-number n = eq-eqb n n refl

pub other-number : (m n : ℕ) → m ≢ n → (m == n) ≡ false
other-number m n apart = by (eqb_tells m n)
  where
    by : ((m == n) ≡ true) × (m ≡ n) ⊎ ((m == n) ≡ false) × (m ≢ n) → (m == n) ≡ false
    by (inl e) = absurd (apart e.1)
    by (inr e) = e.0

-- what has one number has no other
no-other : (n id other : ℕ) → (n == id) ≡ true → other ≢ id → (n == other) ≡ false
no-other n id other e apart = other-number n other (λ same. apart (sym same ∙ eqb-true n id e))

pub not-same : (m n : ℕ) → (m == n) ≡ false → m ≢ n
not-same m n e same = absurd (cc (sym e ∙ eq-eqb m n same))

-- ---- another search

pub search-with : (id : ℕ) (t before : Search) (ss : List Session) → search_of id ss ≡ Some before → search_of id (with_search id t ss) ≡ Some t
search-with id t before [] h = absurd (cc h)
search-with id t before (s ∷ ss) h = by (has_number id s) refl h (search-with id t before ss)
  where
    by : (b : Bool) → has_number id s ≡ b → (if b then Some s.search else search_of id ss) ≡ Some before
        → (search_of id ss ≡ Some before → search_of id (with_search id t ss) ≡ Some t)
        → search_of id (if b then record s { search = t } ∷ ss else s ∷ with_search id t ss) ≡ Some t
    by true e h next = rw e refl
    by false e h next = rw e (next h)

pub search-with-other : (id other : ℕ) (t : Search) (ss : List Session) → other ≢ id → search_of other (with_search id t ss) ≡ search_of other ss
search-with-other id other t [] apart = refl
search-with-other id other t (s ∷ ss) apart = by (has_number id s) refl (search-with-other id other t ss apart)
  where
    by : (b : Bool) → has_number id s ≡ b → search_of other (with_search id t ss) ≡ search_of other ss
        → search_of other (if b then record s { search = t } ∷ ss else s ∷ with_search id t ss) ≡ search_of other (s ∷ ss)
    by true e next = rw (no-other s.number id other e apart) refl
    by false e next = ap (λ o. if has_number other s then Some s.search else o) next

-- ---- one session less

pub search-without-other : (id other : ℕ) (ss : List Session) → other ≢ id → search_of other (without id ss) ≡ search_of other ss
search-without-other id other [] apart = refl
search-without-other id other (s ∷ ss) apart = by (has_number id s) refl (search-without-other id other ss apart)
  where
    by : (b : Bool) → has_number id s ≡ b → search_of other (without id ss) ≡ search_of other ss
        → search_of other (if b then ss else s ∷ without id ss) ≡ search_of other (s ∷ ss)
    by true e next = rw (no-other s.number id other e apart) refl
    by false e next = ap (λ o. if has_number other s then Some s.search else o) next

-- ---- one session more

pub search-append : (id : ℕ) (t : Search) (ss more : List Session) → search_of id ss ≡ Some t → search_of id (ss ++ more) ≡ Some t
search-append id t [] more h = absurd (cc h)
search-append id t (s ∷ ss) more h = by (has_number id s) h (search-append id t ss more)
  where
    by : (b : Bool) → (if b then Some s.search else search_of id ss) ≡ Some t → (search_of id ss ≡ Some t → search_of id (ss ++ more) ≡ Some t)
        → (if b then Some s.search else search_of id (ss ++ more)) ≡ Some t
    by true h next = h
    by false h next = next h

-- every number is below this one
abbrev pub AllBelow : ℕ → List Session → Type 0
AllBelow n [] = ⊤
AllBelow n (s ∷ ss) = (s.number < n) × AllBelow n ss

pub below-more : (n m : ℕ) (ss : List Session) → n ≤ m → AllBelow n ss → AllBelow m ss
below-more n m [] more h = h
below-more n m (s ∷ ss) more h = (omega (arith, h.0, more), below-more n m ss more h.1)

pub below-append : (n : ℕ) (ss : List Session) (s : Session) → AllBelow n ss → s.number < n → AllBelow n (ss ++ s ∷ [])
below-append n [] s h l = (l, h)
below-append n (o ∷ ss) s h l = (h.0, below-append n ss s h.1 l)

pub below-with : (n id : ℕ) (t : Search) (ss : List Session) → AllBelow n ss → AllBelow n (with_search id t ss)
below-with n id t [] h = h
below-with n id t (s ∷ ss) h = by (has_number id s) (below-with n id t ss h.1)
  where
    by : (b : Bool) → AllBelow n (with_search id t ss) → AllBelow n (if b then record s { search = t } ∷ ss else s ∷ with_search id t ss)
    by true next = h
    by false next = (h.0, next)

pub below-without : (n id : ℕ) (ss : List Session) → AllBelow n ss → AllBelow n (without id ss)
below-without n id [] h = h
below-without n id (s ∷ ss) h = by (has_number id s) (below-without n id ss h.1)
  where
    by : (b : Bool) → AllBelow n (without id ss) → AllBelow n (if b then ss else s ∷ without id ss)
    by true next = h.1
    by false next = (h.0, next)

-- the session with the next number is the new one
pub search-new : (next : ℕ) (t : Search) (ss : List Session) → AllBelow next ss → search_of next (ss ++ record { number = next; search = t } ∷ []) ≡ Some t
search-new next t [] h = rw (same-number next) refl
search-new next t (s ∷ ss) h = rw (other-number s.number next (λ same. absurd (omega (arith, h.0, same)))) (search-new next t ss h.1)
