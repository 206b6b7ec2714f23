-- What stays of a list is needed.
use Rattle.std.proofs.Common.{◌≡◌, ◌≢◌, ◌⊎◌, inl, inr, ℕ, nat_eq, Bool, true, false, not, ◌&&◌, ◌||◌, List, [], ◌∷◌, ◌++◌, append_assoc, append-nil, refl, sym, ap, subst, ◌∙◌}
use Rattle.std.specs.Prelude.{if◌then◌else◌, nat_lt}
use Rattle.std.specs.List.{list_all, list_any}
use Rattle.std.proofs.lemmas.Bool.{and_from, and_parts, eqb-true, or_left, or_right, true≢false}
use Rattle.std.proofs.lemmas.List.Folds.{list_all-append, list_any-append}
use Rattle.scasp_list.specs.Each.{Each}
use Rattle.scasp_list.proofs.EachLemmas.{Each-append, Each-left, Each-right}
use Rattle.scasp_num.specs.declared.linear.Coeff.{Coeff}
use Rattle.scasp_num.specs.Linear.{negation}
use Rattle.scasp_hint.specs.AskedRows.{RowsNormal}
use Rattle.scasp_hint.specs.Finding.{Found, found, hint, nothing, unknown_list}
use Rattle.scasp_hint.proofs.FoundLemmas.{found-sorted}
use Rattle.scasp_project.specs.Meaning.{IsNoEquation}
use Rattle.scasp_project.proofs.MetLaw.{resolved-var}
use Rattle.scasp_syntax.specs.Constraints.{Sat, holds, is_number}
use Rattle.scasp_syntax.specs.Same.{same_tm}
use Rattle.scasp_syntax.specs.Tm.{var}
use Rattle.scasp_syntax.specs.Values.{Sub}
use Rattle.scasp_syntax.specs.declared.con.Con.{Con}
use Rattle.scasp_syntax.specs.declared.con.Con.TheVariants as con
use Rattle.scasp_syntax.specs.declared.term.Term.{Term}
use Rattle.scasp_syntax.specs.declared.term.Term.TheVariants as term
use Rattle.scasp_syntax.proofs.SameLemmas.{tm_decided}
use Rattle.scasp_unify.specs.Negations.{negated}
use Rattle.scasp_unify.specs.Numbers.{counts, is_num_of}
use Rattle.scasp_unify.specs.Resolver.{resolver}
use Rattle.scasp_unify.specs.Sorted.{Sorted, is_typed, is_typed_con, typed}
use Rattle.scasp_unify.proofs.PointLemmas.{negation-is}
use Rattle.scasp_unify.proofs.SortedLemmas.{negation-added, one-more}
use Rattle.scasp_shorten.specs.Following.{follows, has_negation, is_asked, is_row_of, is_shown, is_test_of, is_variable, questions, tells_number}
use Rattle.scasp_shorten.specs.Needed.{EachNeeded, IsNeeded, OverflowsAt, Says}
use Rattle.scasp_shorten.specs.Shortest.{is_test, is_told, most_questions, shortened, thinned, thinned_behind, without_evident}
use Rattle.scasp_shorten.specs.declared.shortening.Means.{Means}
use Rattle.scasp_shorten.specs.declared.shortening.Means.TheVariants as means
use Rattle.scasp_shorten.specs.Told.{are_rows_tested, is_tested, tells, tells_all}
use Rattle.scasp_shorten.proofs.FollowingLemmas.{tells-holds}
use Rattle.scasp_shorten.proofs.RowsLemmas.{normal-append, normal-left, normal-negated, normal-right}
use Rattle.scasp_shorten.proofs.TestedLemmas.{tested-told}

-- the lists of which this is said: rows in normal form, no equations, and a number test for each variable of a row
pub record IsPlainList (cs : List Con) : Type 0 where
  pub normal : RowsNormal cs
  pub plain : Each IsNoEquation cs
  pub tested : are_rows_tested cs ≡ true

-- ---- number tests

no-test : (x : ℕ) (c : Con) → is_test c ≡ false → is_test_of x c ≡ false
no-test x (con.Num t) e = absurd (true≢false e)
no-test x (con.Eq t u) e = refl
no-test x (con.Neq t u) e = refl
no-test x (con.NotShape y f n) e = refl
no-test x (con.NotNum t) e = refl
no-test x (con.Row r) e = refl

-- a constraint that is no number test may go
same-tests : (before rest : List Con) (c : Con) → is_test c ≡ false → (x : ℕ) → list_any (is_test_of x) (before ++ c ∷ rest) ≡ list_any (is_test_of x) (before ++ rest)
same-tests before rest c e x =
    list_any-append (is_test_of x) before (c ∷ rest)
    ∙ ap (λ b. list_any (is_test_of x) before || (b || list_any (is_test_of x) rest)) (no-test x c e)
    ∙ sym (list_any-append (is_test_of x) before rest)

-- whether each variable of a row passes a test
abbrev by-tests : (ℕ → Bool) → Con → Bool
by-tests f (con.Row r) = list_all (λ k. f k.x) r.coeffs
by-tests f (con.Eq t u) = true
by-tests f (con.Neq t u) = true
by-tests f (con.NotShape x g n) = true
by-tests f (con.Num t) = true
by-tests f (con.NotNum t) = true

tested-by : (cs : List Con) (d : Con) → is_tested cs d ≡ by-tests (λ x. list_any (is_test_of x) cs) d
tested-by cs (con.Row r) = refl
tested-by cs (con.Eq t u) = refl
tested-by cs (con.Neq t u) = refl
tested-by cs (con.NotShape x f n) = refl
tested-by cs (con.Num t) = refl
tested-by cs (con.NotNum t) = refl

tested-same : (before rest : List Con) (c : Con) → is_test c ≡ false → (d : Con) → is_tested (before ++ c ∷ rest) d ≡ is_tested (before ++ rest) d
tested-same before rest c e d =
    tested-by (before ++ c ∷ rest) d
    ∙ ap (λ (f : ℕ → Bool). by-tests f d) (λ i x. same-tests before rest c e x i)
    ∙ sym (tested-by (before ++ rest) d)

tested-without : (before rest : List Con) (c : Con) → is_test c ≡ false → are_rows_tested (before ++ c ∷ rest) ≡ true → are_rows_tested (before ++ rest) ≡ true
tested-without before rest c e m =
    let p = and_parts (list_all (is_tested (before ++ c ∷ rest)) before) (list_all (is_tested (before ++ c ∷ rest)) (c ∷ rest)) (sym (list_all-append (is_tested (before ++ c ∷ rest)) before (c ∷ rest)) ∙ m) in
    let q = and_parts (is_tested (before ++ c ∷ rest) c) (list_all (is_tested (before ++ c ∷ rest)) rest) p.1 in
    ap (λ (f : Con → Bool). list_all f (before ++ rest)) (λ i d. sym (tested-same before rest c e d) i)
    ∙ list_all-append (is_tested (before ++ c ∷ rest)) before rest
    ∙ and_from (list_all (is_tested (before ++ c ∷ rest)) before) (list_all (is_tested (before ++ c ∷ rest)) rest) p.0 q.1

tested-here : (before rest : List Con) (c : Con) → are_rows_tested (before ++ c ∷ rest) ≡ true → is_tested (before ++ c ∷ rest) c ≡ true
tested-here before rest c m =
    let p = and_parts (list_all (is_tested (before ++ c ∷ rest)) before) (list_all (is_tested (before ++ c ∷ rest)) (c ∷ rest)) (sym (list_all-append (is_tested (before ++ c ∷ rest)) before (c ∷ rest)) ∙ m) in
    (and_parts (is_tested (before ++ c ∷ rest) c) (list_all (is_tested (before ++ c ∷ rest)) rest) p.1).0

plain-without : (before rest : List Con) (c : Con) → is_test c ≡ false → IsPlainList (before ++ c ∷ rest) → IsPlainList (before ++ rest)
plain-without before rest c e k = record {
  normal = normal-append before rest (normal-left before (c ∷ rest) k.normal) (normal-right (c ∷ []) rest (normal-right before (c ∷ rest) k.normal));
  plain = Each-append IsNoEquation before rest (Each-left IsNoEquation before (c ∷ rest) k.plain) (Each-right IsNoEquation before (c ∷ rest) k.plain).1;
  tested = tested-without before rest c e k.tested;
}

-- ---- such a list is decided

test-term : (x : ℕ) (t : Term) → is_variable x t ≡ true → is_num_of var (var x) (con.Num t) ≡ true
test-term x (term.Var y) e = (tm_decided (var y) (var x)).1 (ap var (sym (eqb-true x y e)))
test-term x (term.Num q) e = absurd (true≢false (sym e))
test-term x (term.App f ts) e = absurd (true≢false (sym e))

test-num : (x : ℕ) (c : Con) → is_test_of x c ≡ true → is_num_of var (var x) c ≡ true
test-num x (con.Num t) e = test-term x t e
test-num x (con.Eq t u) e = absurd (true≢false (sym e))
test-num x (con.Neq t u) e = absurd (true≢false (sym e))
test-num x (con.NotShape y f n) e = absurd (true≢false (sym e))
test-num x (con.NotNum t) e = absurd (true≢false (sym e))
test-num x (con.Row r) e = absurd (true≢false (sym e))

any-mono : (p q : Con → Bool) → ((c : Con) → p c ≡ true → q c ≡ true) → (cs : List Con) → list_any p cs ≡ true → list_any q cs ≡ true
any-mono p q h [] e = e
any-mono p q h (c ∷ cs) e = by (p c) refl (any-mono p q h cs)
  where
    by : (b : Bool) → p c ≡ b → (list_any p cs ≡ true → list_any q cs ≡ true) → list_any q (c ∷ cs) ≡ true
    by true k rest = or_left (q c) (list_any q cs) (h c k)
    by false k rest = or_right (q c) (list_any q cs) (rest (sym (ap (λ b. b || list_any p cs) k) ∙ e))

test-counts : (cs : List Con) → Each IsNoEquation cs → (x : ℕ) → list_any (is_test_of x) cs ≡ true → counts cs x ≡ true
test-counts cs n x e =
    ap (λ (s : Sub). is_number (s x) || list_any (is_num_of s (s x)) cs) (resolved-var cs n)
    ∙ any-mono (is_test_of x) (is_num_of var (var x)) (test-num x) cs e

coeffs-count : (cs : List Con) → Each IsNoEquation cs → (ks : List Coeff) → list_all (λ k. list_any (is_test_of k.x) cs) ks ≡ true → list_all (λ k. counts cs k.x) ks ≡ true
coeffs-count cs n [] e = refl
coeffs-count cs n (k ∷ ks) e =
    let p = and_parts (list_any (is_test_of k.x) cs) (list_all (λ j. list_any (is_test_of j.x) cs) ks) e in
    and_from (counts cs k.x) (list_all (λ j. counts cs j.x) ks) (test-counts cs n k.x p.0) (coeffs-count cs n ks p.1)

con-typed : (cs : List Con) → Each IsNoEquation cs → (c : Con) → is_tested cs c ≡ true → is_typed_con cs c ≡ true
con-typed cs n (con.Row r) e = coeffs-count cs n r.coeffs e
con-typed cs n (con.Eq t u) e = refl
con-typed cs n (con.Neq t u) e = refl
con-typed cs n (con.NotShape x f a) e = refl
con-typed cs n (con.Num t) e = refl
con-typed cs n (con.NotNum t) e = refl

all-typed : (cs ds : List Con) → Each IsNoEquation cs → list_all (is_tested cs) ds ≡ true → list_all (is_typed_con cs) ds ≡ true
all-typed cs [] n e = refl
all-typed cs (d ∷ ds) n e =
    let p = and_parts (is_tested cs d) (list_all (is_tested cs) ds) e in
    and_from (is_typed_con cs d) (list_all (is_typed_con cs) ds) (con-typed cs n d p.0) (all-typed cs ds n p.1)

plain-sorted : (cs : List Con) → IsPlainList cs → Sorted cs
plain-sorted cs k = typed (all-typed cs cs k.plain k.tested)

asked-sorted : (cs : List Con) (c : Con) → IsPlainList cs → is_tested cs c ≡ true → has_negation c ≡ true → Sorted (cs ++ negated 0 c ∷ [])
asked-sorted cs (con.Row r) k e h = negation-added cs r (plain-sorted cs k) (coeffs-count cs k.plain r.coeffs e)
asked-sorted cs (con.Eq t u) k e h = one-more cs (con.Neq t u) (plain-sorted cs k) refl
asked-sorted cs (con.Neq t u) k e h = one-more cs (con.Eq t u) (plain-sorted cs k) refl
asked-sorted cs (con.NotNum t) k e h = one-more cs (con.Num t) (plain-sorted cs k) refl
asked-sorted cs (con.Num t) k e h = absurd (true≢false (sym h))
asked-sorted cs (con.NotShape x f n) k e h = absurd (true≢false (sym h))

-- ---- one constraint

-- the negation holds, and so the constraint does not
denied : (v : Sub) (c : Con) → has_negation c ≡ true → holds v (negated 0 c) ≡ true → holds v c ≡ true → ⊥
denied v (con.Row r) h m e = true≢false (sym m ∙ negation-is v r ∙ ap not e)
denied v (con.Eq t u) h m e = true≢false (sym m ∙ ap not e)
denied v (con.Neq t u) h m e = true≢false (sym e ∙ ap not m)
denied v (con.NotNum t) h m e = true≢false (sym e ∙ ap not m)
denied v (con.Num t) h m e = absurd (true≢false (sym h))
denied v (con.NotShape x f n) h m e = absurd (true≢false (sym h))

numbers-told : (cs : List Con) (ks : List Coeff) → list_all (λ k. list_any (is_test_of k.x) cs) ks ≡ true → list_all (λ k. tells_number cs k.x) ks ≡ true
numbers-told cs [] e = refl
numbers-told cs (k ∷ ks) e =
    let p = and_parts (list_any (is_test_of k.x) cs) (list_all (λ j. list_any (is_test_of j.x) cs) ks) e in
    and_from (tells_number cs k.x) (list_all (λ j. tells_number cs j.x) ks) (or_left (list_any (is_test_of k.x) cs) (list_any (is_row_of k.x) cs) p.0) (numbers-told cs ks p.1)

-- a constraint of which the negation is asked stays only if no hint is found
not-asked : (cs : List Con) (c : Con) → is_tested cs c ≡ true → has_negation c ≡ true → follows cs c ≡ false → is_asked cs c ≡ false
not-asked cs (con.Row r) t h e = sym (ap (λ b. b && is_asked cs (con.Row r)) (numbers-told cs r.coeffs t)) ∙ e
not-asked cs (con.Eq l u) t h e = e
not-asked cs (con.Neq l u) t h e = e
not-asked cs (con.NotNum l) t h e = e
not-asked cs (con.Num l) t h e = absurd (true≢false (sym h))
not-asked cs (con.NotShape x f n) t h e = absurd (true≢false (sym h))

no-test-asked : (c : Con) → has_negation c ≡ true → is_test c ≡ false
no-test-asked (con.Row r) h = refl
no-test-asked (con.Eq t u) h = refl
no-test-asked (con.Neq t u) h = refl
no-test-asked (con.NotNum t) h = refl
no-test-asked (con.Num t) h = absurd (true≢false (sym h))
no-test-asked (con.NotShape x f n) h = absurd (true≢false (sym h))

-- a list with a valuation in which the constraint does not hold does not say it, and neither does a shorter one
not-said : (cs ds : List Con) (c : Con) → IsPlainList cs → has_negation c ≡ true → ((v : Sub) → tells_all v cs ≡ true → tells_all v ds ≡ true) → Sat (cs ++ negated 0 c ∷ []) → Says ds c → ⊥
not-said cs ds c k h shorter m says =
    let p = and_parts (list_all (holds m.by.of) cs) (holds m.by.of (negated 0 c) && true) (sym (list_all-append (holds m.by.of) cs (negated 0 c ∷ [])) ∙ m.meets) in
    denied m.by.of c h (and_parts (holds m.by.of (negated 0 c)) true p.1).0 (tells-holds m.by.of c (says m.by (shorter m.by.of (tested-told m.by.of cs k.tested ∙ p.0))))

-- ---- what stays

-- what stays of the list behind these
abbrev kept : List Con → List Con → List Con
kept before [] = []
kept before (c ∷ rest) = if not (is_test c) && follows (before ++ rest) c then kept before rest else c ∷ kept (before ++ c ∷ []) rest

stay-or-go : (P : List Con → Type 0) (before rest : List Con) (c : Con) → (b : Bool) → (not (is_test c) && follows (before ++ rest) c) ≡ b
    → P (if b then kept before rest else c ∷ kept (before ++ c ∷ []) rest) → P (kept before (c ∷ rest))
stay-or-go P before rest c b p h = subst (λ (k : Bool). P (if k then kept before rest else c ∷ kept (before ++ c ∷ []) rest)) (sym p) h

shortened-kept : (before rest : List Con) → shortened means.Question before rest ≡ before ++ kept before rest
shortened-kept before [] = sym (append-nil before)
shortened-kept before (c ∷ rest) = by (not (is_test c) && follows (before ++ rest) c) refl (shortened-kept before rest) (shortened-kept (before ++ c ∷ []) rest)
  where
    by : (b : Bool) → (not (is_test c) && follows (before ++ rest) c) ≡ b → shortened means.Question before rest ≡ before ++ kept before rest → shortened means.Question (before ++ c ∷ []) rest ≡ (before ++ c ∷ []) ++ kept (before ++ c ∷ []) rest
        → shortened means.Question before (c ∷ rest) ≡ before ++ kept before (c ∷ rest)
    by true p gone stays =
        ap (λ b. if b then shortened means.Question before rest else shortened means.Question (before ++ c ∷ []) rest) p ∙ gone
        ∙ sym (ap (λ b. before ++ (if b then kept before rest else c ∷ kept (before ++ c ∷ []) rest)) p)
    by false p gone stays =
        ap (λ b. if b then shortened means.Question before rest else shortened means.Question (before ++ c ∷ []) rest) p ∙ stays ∙ append_assoc before (c ∷ []) (kept (before ++ c ∷ []) rest)
        ∙ sym (ap (λ b. before ++ (if b then kept before rest else c ∷ kept (before ++ c ∷ []) rest)) p)

kept-told : (v : Sub) (before rest : List Con) → tells_all v rest ≡ true → tells_all v (kept before rest) ≡ true
kept-told v before [] m = refl
kept-told v before (c ∷ rest) m =
    by (not (is_test c) && follows (before ++ rest) c) refl (kept-told v before rest) (kept-told v (before ++ c ∷ []) rest)
  where
    q : (tells v c ≡ true) × (tells_all v rest ≡ true)
    q = and_parts (tells v c) (tells_all v rest) m

    by : (b : Bool) → (not (is_test c) && follows (before ++ rest) c) ≡ b → (tells_all v rest ≡ true → tells_all v (kept before rest) ≡ true) → (tells_all v rest ≡ true → tells_all v (kept (before ++ c ∷ []) rest) ≡ true)
        → tells_all v (kept before (c ∷ rest)) ≡ true
    by true p gone stays = stay-or-go (λ ds. tells_all v ds ≡ true) before rest c true p (gone q.1)
    by false p gone stays = stay-or-go (λ ds. tells_all v ds ≡ true) before rest c false p (and_from (tells v c) (tells_all v (kept (before ++ c ∷ []) rest)) q.0 (stays q.1))

rest-told : (v : Sub) (before rest : List Con) (c : Con) → tells_all v (before ++ rest) ≡ true → tells_all v (before ++ kept (before ++ c ∷ []) rest) ≡ true
rest-told v before rest c m =
    let p = and_parts (tells_all v before) (tells_all v rest) (sym (list_all-append (tells v) before rest) ∙ m) in
    list_all-append (tells v) before (kept (before ++ c ∷ []) rest)
    ∙ and_from (tells_all v before) (tells_all v (kept (before ++ c ∷ []) rest)) p.0 (kept-told v (before ++ c ∷ []) rest p.1)

-- a constraint that stays is needed
needed : (before rest : List Con) (c : Con) → IsPlainList (before ++ c ∷ rest) → (not (is_test c) && follows (before ++ rest) c) ≡ false → IsNeeded before c (kept (before ++ c ∷ []) rest)
needed before rest c k p h = by (found ((before ++ rest) ++ negated 0 c ∷ [])) refl
  where
    no : is_test c ≡ false
    no = no-test-asked c h

    smaller : IsPlainList (before ++ rest)
    smaller = plain-without before rest c no k

    tested : is_tested (before ++ rest) c ≡ true
    tested = sym (tested-same before rest c no c) ∙ tested-here before rest c k.tested

    unshown : is_asked (before ++ rest) c ≡ false
    unshown = not-asked (before ++ rest) c tested h (sym (ap (λ b. not b && follows (before ++ rest) c) no) ∙ p)

    normal : RowsNormal ((before ++ rest) ++ negated 0 c ∷ [])
    normal = normal-append (before ++ rest) (negated 0 c ∷ []) smaller.normal (normal-negated c (normal-left (c ∷ []) rest (normal-right before (c ∷ rest) k.normal)))

    by : (f : Found) → found ((before ++ rest) ++ negated 0 c ∷ []) ≡ f → (Says (before ++ kept (before ++ c ∷ []) rest) c → ⊥) ⊎ OverflowsAt before c (kept (before ++ c ∷ []) rest)
    by nothing q =
        inl (not-said (before ++ rest) (before ++ kept (before ++ c ∷ []) rest) c smaller h (λ v. rest-told v before rest c) (found-sorted ((before ++ rest) ++ negated 0 c ∷ []) normal q (asked-sorted (before ++ rest) c smaller tested h)))
    by unknown_list q = inr (rest, shortened-kept (before ++ c ∷ []) rest, q)
    by (hint i) q = absurd (true≢false (sym (ap is_shown q) ∙ unshown))

gone-test : (a b : Bool) → (not a && b) ≡ true → a ≡ false
gone-test true b e = absurd (true≢false (sym e))
gone-test false b e = refl

each-needed : (before rest : List Con) → IsPlainList (before ++ rest) → EachNeeded before (kept before rest)
each-needed before [] k = tt
each-needed before (c ∷ rest) k = by (not (is_test c) && follows (before ++ rest) c) refl (each-needed before rest) (each-needed (before ++ c ∷ []) rest)
  where
    by : (b : Bool) → (not (is_test c) && follows (before ++ rest) c) ≡ b → (IsPlainList (before ++ rest) → EachNeeded before (kept before rest)) → (IsPlainList ((before ++ c ∷ []) ++ rest) → EachNeeded (before ++ c ∷ []) (kept (before ++ c ∷ []) rest))
        → EachNeeded before (kept before (c ∷ rest))
    by true p gone stays = stay-or-go (EachNeeded before) before rest c true p (gone (plain-without before rest c (gone-test (is_test c) (follows (before ++ rest) c) p) k))
    by false p gone stays =
        stay-or-go (EachNeeded before) before rest c false p
        (needed before rest c k p, stays (subst IsPlainList (sym (append_assoc before (c ∷ []) rest)) k))

-- a list without what is told is such a list
shortened-plain : (m : Means) (before rest : List Con) → IsPlainList (before ++ rest) → IsPlainList (shortened m before rest)
shortened-plain m before [] k = subst IsPlainList (append-nil before) k
shortened-plain m before (c ∷ rest) k = by (not (is_test c) && is_told m (before ++ rest) c) refl (shortened-plain m before rest) (shortened-plain m (before ++ c ∷ []) rest)
  where
    by : (b : Bool) → (not (is_test c) && is_told m (before ++ rest) c) ≡ b → (IsPlainList (before ++ rest) → IsPlainList (shortened m before rest)) → (IsPlainList ((before ++ c ∷ []) ++ rest) → IsPlainList (shortened m (before ++ c ∷ []) rest))
        → IsPlainList (shortened m before (c ∷ rest))
    by true p gone stays =
        subst (λ (b : Bool). IsPlainList (if b then shortened m before rest else shortened m (before ++ c ∷ []) rest)) (sym p)
        (gone (plain-without before rest c (gone-test (is_test c) (is_told m (before ++ rest) c) p) k))
    by false p gone stays =
        subst (λ (b : Bool). IsPlainList (if b then shortened m before rest else shortened m (before ++ c ∷ []) rest)) (sym p)
        (stays (subst IsPlainList (sym (append_assoc before (c ∷ []) rest)) k))

all-needed : (cs : List Con) → IsPlainList cs → nat_lt most_questions (questions cs) ≡ false → EachNeeded [] (thinned cs)
all-needed [] k e = tt
all-needed (c ∷ cs) k e =
    subst (λ (b : Bool). EachNeeded [] (if b then thinned_behind (c ∷ []) cs else shortened means.Question [] (c ∷ cs))) (sym e)
    (subst (EachNeeded []) (sym (shortened-kept [] (c ∷ cs))) (each-needed [] (c ∷ cs) k))

pub stays-needed : (cs : List Con) → RowsNormal cs → Each IsNoEquation cs → are_rows_tested cs ≡ true → nat_lt most_questions (questions (without_evident cs)) ≡ false → EachNeeded [] (thinned (without_evident cs))
stays-needed cs n p t e = all-needed (without_evident cs) (shortened-plain means.Evidence [] cs (record { normal = n; plain = p; tested = t })) e
