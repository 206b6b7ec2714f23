-- The open constraints, as the bindings read them, are asked in place of the whole list.
use Rattle.std.proofs.Common.{◌≡◌, ◌↔◌, ◌⊎◌, inl, inr, nat_eq, ℕ, Bool, true, false, ◌&&◌, ◌||◌, not, List, [], ◌∷◌, ◌++◌, is_none, if◌then◌else◌, Option, None, Some, refl, sym, ap, subst, ◌∙◌}
use Rattle.std.specs.List.{list_all, list_any}
use Rattle.std.proofs.lemmas.Bool.{and_from, and_parts, eqb-true, true≢false}
use Rattle.std.proofs.lemmas.Bool.Decides.{Decides-eqb}
use Rattle.scasp_list.specs.Each.{Each}
use Rattle.scasp_list.proofs.EachLemmas.{Each-append, Each-from_test, Each-left, Each-map, Each-right, test_from-Each}
use Rattle.scasp_search_rules.specs.Successors.Regions.{equation}
use Rattle.scasp_hint.specs.AskedRows.{RowsNormal, given_rows}
use Rattle.scasp_hint.specs.Satisfying.{sat}
use Rattle.scasp_hint.proofs.SatisfyingLemmas.{sat-sorted}
use Rattle.scasp_law_parts.specs.Bound.{Triangular, equations}
use Rattle.scasp_law_parts.specs.Parts.{SatUnder}
use Rattle.scasp_law_parts.specs.Questions.{IsReadable, IsReadableRow}
use Rattle.scasp_law_parts.proofs.AgreeLemmas.{join-all, split-all}
use Rattle.scasp_law_parts.proofs.BoundLemmas.{absorbed}
use Rattle.scasp_law_parts.proofs.ReadLemmas.{con-read, list-met, same-truth}
use Rattle.scasp_law_parts.proofs.TriangularLemmas.{solved-self}
use Rattle.scasp_num.specs.Linear.{IsNormal, Linear}
use Rattle.scasp_num.specs.declared.linear.Coeff.{Coeff}
use Rattle.scasp_search_rules.specs.Successors.Reading.{among, con_under, holds_always, not_shaped}
use Rattle.scasp_syntax.specs.Same.{same_tm}
use Rattle.scasp_syntax.proofs.SameLemmas.{tm_decided}
use Rattle.scasp_syntax.proofs.ValueLemmas.{under-under}
use Rattle.scasp_syntax.specs.Constraints.{Sat, has_shape, holds, is_number}
use Rattle.scasp_syntax.specs.Tm.{Tm, var, num, app}
use Rattle.scasp_syntax.specs.Values.{Sub, under}
use Rattle.scasp_syntax.specs.View.{tm_of}
use Rattle.scasp_syntax.specs.declared.con.Con.{Con}
use Rattle.scasp_syntax.specs.declared.con.Con.TheVariants as con
use Rattle.scasp_unify.specs.Numbers.{counts, is_num_of}
use Rattle.scasp_unify.specs.SimpleForm.{term_with}
use Rattle.scasp_unify.specs.ResolvedRows.{resolved_row}
use Rattle.scasp_unify.specs.Resolver.{Equal, resolver, resolver_after}
use Rattle.scasp_unify.specs.Solving.{sub_of}
use Rattle.scasp_unify.specs.Sorted.{is_typed, is_typed_con, typed}
use Rattle.scasp_unify.specs.TermFailures.{is_compound}
use Rattle.scasp_unify.specs.Unification.{then_by}
use Rattle.scasp_unify.specs.declared.bindings.Binding.{Binding}
use Rattle.scasp_unify.proofs.ValuationLemmas.{ground-under}
use Rattle.scasp_store.specs.Inside.Asking.{are_counted, counts_all, is_askable, is_counted, is_equation, is_readable, is_row, is_sorted, is_told, one_var, read_by, told_by, told_var}
use Rattle.scasp_store.specs.Inside.Open.{AreOpen, IsContrary, IsGood, IsSettled, has_values, opened}
use Rattle.scasp_store.specs.Inside.Reads.{AreAlike, Reads, counts_by}
use Rattle.scasp_store.proofs.OpenLemmas.{all-of, any-of, none-of, open-of}
use Rattle.scasp_store.proofs.SolvedLemmas.{goes-on, resolved-behind}
use Rattle.scasp_store.proofs.TrueLemmas.{always, number-stays}

-- ---- booleans

pub any-left : (p : Con → Bool) (cs ds : List Con) → list_any p cs ≡ true → list_any p (cs ++ ds) ≡ true
any-left p [] ds e = absurd (true≢false (sym e))
any-left p (c ∷ cs) ds e = by (p c) e (any-left p cs ds)
  where
    by : (b : Bool) → (b || list_any p cs) ≡ true → (list_any p cs ≡ true → list_any p (cs ++ ds) ≡ true) → (b || list_any p (cs ++ ds)) ≡ true
    by true e rest = refl
    by false e rest = rest e

pub any-right : (p : Con → Bool) (cs ds : List Con) → list_any p ds ≡ true → list_any p (cs ++ ds) ≡ true
any-right p [] ds e = e
any-right p (c ∷ cs) ds e = by (p c) (any-right p cs ds e)
  where
    by : (b : Bool) → list_any p (cs ++ ds) ≡ true → (b || list_any p (cs ++ ds)) ≡ true
    by true e = refl
    by false e = e

any-parts : (p : Con → Bool) (cs ds : List Con) → list_any p (cs ++ ds) ≡ true → (b : Bool) → list_any p cs ≡ b → (b ≡ true → list_any p cs ≡ true) × (b ≡ false → list_any p ds ≡ true)
any-parts p [] ds e true k = absurd (true≢false (sym k))
any-parts p [] ds e false k = ((λ f. absurd (true≢false (sym f))), λ _. e)
any-parts p (c ∷ cs) ds e b k = by (p c) e k (any-parts p cs ds)
  where
    by : (a : Bool) → (a || list_any p (cs ++ ds)) ≡ true → (a || list_any p cs) ≡ b → (list_any p (cs ++ ds) ≡ true → (b : Bool) → list_any p cs ≡ b → (b ≡ true → list_any p cs ≡ true) × (b ≡ false → list_any p ds ≡ true)) → (b ≡ true → (a || list_any p cs) ≡ true) × (b ≡ false → list_any p ds ≡ true)
    by true e k rest = ((λ f. refl), λ f. absurd (true≢false (k ∙ f)))
    by false e k rest = let q = rest e b k in q

-- an open constraint or one that is asked stands in the whole list
stands : (p : Con → Bool) (bs : List Con) (cs : List Con) (ps : List ℕ) (more : List Con) → list_any p (opened cs ps ++ more) ≡ true → list_any p (bs ++ (cs ++ more)) ≡ true
stands p bs cs ps more e = any-right p bs (cs ++ more) (by (list_any p (opened cs ps)) refl)
  where
    by : (b : Bool) → list_any p (opened cs ps) ≡ b → list_any p (cs ++ more) ≡ true
    by true k = any-left p cs more (any-of p cs ps k)
    by false k = any-right p cs more ((any-parts p (opened cs ps) more e false k).1 refl)

-- ---- readable constraints

flat-each : (s : Sub) (ks : List Coeff) → list_all (λ k. not (is_compound (s k.x))) ks ≡ true → Each (λ k. is_compound (s k.x) ≡ false) ks
flat-each s ks e = Each-from_test (λ k. not (is_compound (s k.x))) (λ k. is_compound (s k.x) ≡ false) (λ k f. by (is_compound (s k.x)) f) ks e
  where
    by : (b : Bool) → not b ≡ true → b ≡ false
    by true f = absurd (true≢false (sym f))
    by false f = refl

read-row : (s : Sub) (r : Linear) → IsNormal r → Each (λ k. is_compound (s k.x) ≡ false) r.coeffs → (o : Option Linear) → o ≡ resolved_row s r → not (is_none o) ≡ true → IsReadableRow s r
read-row s r n f None e g = absurd (true≢false (sym g))
read-row s r n f (Some q) e g = record { normal = n; row = q; read = e; flat = f }

pub read-con : (s : Sub) (c : Con) → Each IsNormal (given_rows (c ∷ [])) → is_readable s c ≡ true → IsReadable s c
read-con s (con.Eq t u) n e = tt
read-con s (con.Neq t u) n e = tt
read-con s (con.NotShape x f k) n e = tt
read-con s (con.Num t) n e = tt
read-con s (con.NotNum t) n e = tt
read-con s (con.Row r) n e =
    let k = and_parts (not (is_none (resolved_row s r))) (list_all (λ k. not (is_compound (s k.x))) r.coeffs) e in
    read-row s r n.0 (flat-each s r.coeffs k.1) (resolved_row s r) refl k.0

each-normal : (c : Con) (cs : List Con) → RowsNormal (c ∷ cs) → (Each IsNormal (given_rows (c ∷ []))) × RowsNormal cs
each-normal (con.Eq t u) cs n = (tt, n)
each-normal (con.Neq t u) cs n = (tt, n)
each-normal (con.NotShape x f k) cs n = (tt, n)
each-normal (con.Num t) cs n = (tt, n)
each-normal (con.NotNum t) cs n = (tt, n)
each-normal (con.Row r) cs n = ((n.0, tt), n.1)

pub all-read : (s : Sub) (cs : List Con) → RowsNormal cs → list_all (is_readable s) cs ≡ true → Each (IsReadable s) cs
all-read s [] n e = tt
all-read s (c ∷ cs) n e =
    let k = and_parts (is_readable s c) (list_all (is_readable s) cs) e in
    let m = each-normal c cs n in
    (read-con s c m.0 k.0, all-read s cs m.1 k.1)

-- ---- settled constraints

-- a constraint that is read as true is settled, where its rows have numbers alone
pub settled : (bs : List Binding) (c : Con) → Triangular bs → Each IsNormal (given_rows (c ∷ [])) → is_readable (sub_of bs) c ≡ true → has_values (sub_of bs) c ≡ true → holds_always (con_under (sub_of bs) c) ≡ true → IsSettled (sub_of bs) c
settled bs c h n r v e = record {
  always = λ w. sym (con-read (sub_of bs) w c (absorbed (sub_of bs) bs (solved-self bs h)) (read-con (sub_of bs) c n r)) ∙ always (con_under (sub_of bs) c) e w;
  values = v;
}

-- ---- whether the lists are sorted

sorted-equations : (all : List Con) (bs : List Binding) → list_all (is_typed_con all) (equations bs) ≡ true
sorted-equations all [] = refl
sorted-equations all (b ∷ bs) = sorted-equations all bs

pub or-right : (a b : Bool) → b ≡ true → (a || b) ≡ true
or-right true b e = refl
or-right false b e = e

any-implies : (p q : Con → Bool) → ((c : Con) → p c ≡ true → q c ≡ true) → (cs : List Con) → list_any p cs ≡ true → list_any q cs ≡ true
any-implies p q f [] e = absurd (true≢false (sym e))
any-implies p q f (c ∷ cs) e = by (p c) refl e (any-implies p q f cs)
  where
    by : (b : Bool) → p c ≡ b → (b || list_any p cs) ≡ true → (list_any p cs ≡ true → list_any q cs ≡ true) → (q c || list_any q cs) ≡ true
    by true k e rest = ap (λ b. b || list_any q cs) (f c k)
    by false k e rest = or-right (q c) (list_any q cs) (rest e)

all-implies : (p q : Coeff → Bool) → ((k : Coeff) → p k ≡ true → q k ≡ true) → (ks : List Coeff) → list_all p ks ≡ true → list_all q ks ≡ true
all-implies p q f [] e = refl
all-implies p q f (k ∷ ks) e = let h = and_parts (p k) (list_all p ks) e in and_from (q k) (list_all q ks) (f k h.0) (all-implies p q f ks h.1)

num-stays : (s r : Sub) (u : Tm) (c : Con) → is_num_of s u c ≡ true → is_num_of (then_by s r) (under r u) c ≡ true
num-stays s r u (con.Num t) e = (tm_decided (under (then_by s r) (tm_of t)) (under r u)).1 (sym (under-under r s (tm_of t)) ∙ ap (under r) ((tm_decided (under s (tm_of t)) u).0 e))
num-stays s r u (con.Row l) e = absurd (true≢false (sym e))
num-stays s r u (con.Eq t w) e = absurd (true≢false (sym e))
num-stays s r u (con.Neq t w) e = absurd (true≢false (sym e))
num-stays s r u (con.NotShape x f n) e = absurd (true≢false (sym e))
num-stays s r u (con.NotNum t) e = absurd (true≢false (sym e))

-- what counts as a number still does under more bindings, in a longer list
pub counts-stay : (s r : Sub) (some all : List Con) → ((p : Con → Bool) → list_any p some ≡ true → list_any p all ≡ true) → (x : ℕ) → counts_by s some x ≡ true → counts_by (then_by s r) all x ≡ true
counts-stay s r some all more x e = by (is_number (s x)) refl e
  where
    by : (b : Bool) → is_number (s x) ≡ b → (b || list_any (is_num_of s (s x)) some) ≡ true → counts_by (then_by s r) all x ≡ true
    by true k e = ap (λ b. b || list_any (is_num_of (then_by s r) (then_by s r x)) all) (number-stays (s x) r k)
    by false k e = or-right (is_number (then_by s r x)) (list_any (is_num_of (then_by s r) (then_by s r x)) all) (more (is_num_of (then_by s r) (then_by s r x)) (any-implies (is_num_of s (s x)) (is_num_of (then_by s r) (then_by s r x)) (num-stays s r (s x)) some e))

counts-in : (all : List Con) (s r : Sub) → resolver all ≡ then_by s r → (some : List Con) → ((p : Con → Bool) → list_any p some ≡ true → list_any p all ≡ true) → (x : ℕ) → counts_by s some x ≡ true → counts all x ≡ true
counts-in all s r same some more x e = ap (λ (v : Sub). counts_by v all x) same ∙ counts-stay s r some all more x e

settled-typed : (all : List Con) (s r d : Sub) (cs : List Con) → resolver all ≡ then_by s r → ((p : Con → Bool) → list_any p cs ≡ true → list_any p all ≡ true) → ((x : ℕ) → is_number (d x) ≡ true → counts_by s cs x ≡ true) → (c : Con) → IsSettled d c → is_typed_con all c ≡ true
settled-typed all s r d cs same more numbers (con.Row l) h = all-implies (λ k. is_number (d k.x)) (λ k. counts all k.x) (λ k e. counts-in all s r same cs more k.x (numbers k.x e)) l.coeffs h.values
settled-typed all s r d cs same more numbers (con.Eq t u) h = refl
settled-typed all s r d cs same more numbers (con.Neq t u) h = refl
settled-typed all s r d cs same more numbers (con.NotShape x f n) h = refl
settled-typed all s r d cs same more numbers (con.Num t) h = refl
settled-typed all s r d cs same more numbers (con.NotNum t) h = refl

no-row-typed : (all : List Con) (c : Con) → is_row c ≡ false → is_typed_con all c ≡ true
no-row-typed all (con.Row l) h = absurd (true≢false h)
no-row-typed all (con.Eq t u) h = refl
no-row-typed all (con.Neq t u) h = refl
no-row-typed all (con.NotShape x f n) h = refl
no-row-typed all (con.Num t) h = refl
no-row-typed all (con.NotNum t) h = refl

var-told : (s : Sub) (y : ℕ) (c : Con) (t : Tm) → among y (one_var t) ≡ true → same_tm t (var y) ≡ true
var-told s y c (var z) e = by (nat_eq y z) refl e
  where
    by : (b : Bool) → nat_eq y z ≡ b → (b || false) ≡ true → nat_eq z y ≡ true
    by true k f = (Decides-eqb z y).1 (sym (eqb-true y z k))
    by false k f = absurd (true≢false (sym f))
var-told s y c (num q) e = absurd (true≢false (sym e))
var-told s y c (app f ts) e = absurd (true≢false (sym e))

one-told : (s : Sub) (y : ℕ) (c : Con) → among y (told_var s c) ≡ true → is_num_of s (var y) c ≡ true
one-told s y (con.Num t) e = var-told s y (con.Num t) (under s (tm_of t)) e
one-told s y (con.Row r) e = absurd (true≢false (sym e))
one-told s y (con.Eq t u) e = absurd (true≢false (sym e))
one-told s y (con.Neq t u) e = absurd (true≢false (sym e))
one-told s y (con.NotShape x f n) e = absurd (true≢false (sym e))
one-told s y (con.NotNum t) e = absurd (true≢false (sym e))

pub either-among : (y : ℕ) (xs ys : List ℕ) → among y (xs ++ ys) ≡ true → (b : Bool) → among y xs ≡ b → (among y ys ≡ true) ⊎ (b ≡ true)
either-among y [] ys e b k = inl e
either-among y (x ∷ xs) ys e b k = by (nat_eq y x) e k (either-among y xs ys)
  where
    by : (a : Bool) → (a || among y (xs ++ ys)) ≡ true → (a || among y xs) ≡ b → (among y (xs ++ ys) ≡ true → (b : Bool) → among y xs ≡ b → (among y ys ≡ true) ⊎ (b ≡ true)) → (among y ys ≡ true) ⊎ (b ≡ true)
    by true e k rest = inr (sym k)
    by false e k rest = rest e b k

-- a variable that is told is that of a number test
told-any : (s : Sub) (y : ℕ) (cs : List Con) → among y (told_by s cs) ≡ true → list_any (is_num_of s (var y)) cs ≡ true
told-any s y [] e = absurd (true≢false (sym e))
told-any s y (c ∷ cs) e = by (either-among y (told_var s c) (told_by s cs) e (among y (told_var s c)) refl) (told-any s y cs)
  where
    here : (a b : Bool) → b ≡ true → (a || b) ≡ true
    here true b k = refl
    here false b k = k

    there : (a b : Bool) → a ≡ true → (a || b) ≡ true
    there true b k = refl
    there false b k = absurd (true≢false (sym k))

    by : (among y (told_by s cs) ≡ true) ⊎ (among y (told_var s c) ≡ true) → (among y (told_by s cs) ≡ true → list_any (is_num_of s (var y)) cs ≡ true) → (is_num_of s (var y) c || list_any (is_num_of s (var y)) cs) ≡ true
    by (inl k) rest = here (is_num_of s (var y) c) (list_any (is_num_of s (var y)) cs) (rest k)
    by (inr k) rest = there (is_num_of s (var y) c) (list_any (is_num_of s (var y)) cs) (one-told s y c k)

told-here : (s : Sub) (some all : List Con) → ((p : Con → Bool) → list_any p some ≡ true → list_any p all ≡ true) → (t : Tm) → is_told (told_by s some) t ≡ true → (is_number t || list_any (is_num_of s t) all) ≡ true
told-here s some all more (var y) e = more (is_num_of s (var y)) (told-any s y some e)
told-here s some all more (num q) e = refl
told-here s some all more (app f ts) e = absurd (true≢false (sym e))

told-counts : (all some : List Con) (s : Sub) → resolver all ≡ s → ((p : Con → Bool) → list_any p some ≡ true → list_any p all ≡ true) → (ks : List Coeff) → list_all (λ k. is_told (told_by s some) (s k.x)) ks ≡ true → list_all (λ k. counts all k.x) ks ≡ true
told-counts all some s same more [] e = refl
told-counts all some s same more (k ∷ ks) e =
    let q = and_parts (is_told (told_by s some) (s k.x)) (list_all (λ k. is_told (told_by s some) (s k.x)) ks) e in
    let one : counts all k.x ≡ true = ap (λ (v : Sub). is_number (v k.x) || list_any (is_num_of v (v k.x)) all) same ∙ told-here s some all more (s k.x) q.0 in
    and_from (counts all k.x) (list_all (λ k. counts all k.x) ks) one (told-counts all some s same more ks q.1)

counted-typed : (all some : List Con) (s : Sub) → resolver all ≡ s → ((p : Con → Bool) → list_any p some ≡ true → list_any p all ≡ true) → (c : Con) → is_counted s (told_by s some) c ≡ true → is_typed_con all c ≡ true
counted-typed all some s same more (con.Row l) e = told-counts all some s same more l.coeffs e
counted-typed all some s same more (con.Eq t u) e = refl
counted-typed all some s same more (con.Neq t u) e = refl
counted-typed all some s same more (con.NotShape x f n) e = refl
counted-typed all some s same more (con.Num t) e = refl
counted-typed all some s same more (con.NotNum t) e = refl

no-equations : (s : Sub) (cs : List Con) → Each (λ c. is_equation c ≡ false) cs → resolver_after s cs ≡ s
no-equations s [] h = refl
no-equations s (con.Eq t u ∷ cs) h = absurd (true≢false h.0)
no-equations s (con.Neq t u ∷ cs) h = no-equations s cs h.1
no-equations s (con.NotShape x f n ∷ cs) h = no-equations s cs h.1
no-equations s (con.Num t ∷ cs) h = no-equations s cs h.1
no-equations s (con.NotNum t ∷ cs) h = no-equations s cs h.1
no-equations s (con.Row r ∷ cs) h = no-equations s cs h.1

all-typed : (all cs : List Con) → Each (λ c. is_typed_con all c ≡ true) cs → list_all (is_typed_con all) cs ≡ true
all-typed all cs e = test_from-Each (is_typed_con all) (λ c. is_typed_con all c ≡ true) (λ c k. k) cs e

-- a row that is read is a row, and nothing else becomes one
read-rows : (s : Sub) (c : Con) → is_row c ≡ false → is_row (con_under s c) ≡ false
read-rows s (con.Row r) e = absurd (true≢false e)
read-rows s (con.Eq t u) e = refl
read-rows s (con.Neq t u) e = refl
read-rows s (con.Num t) e = refl
read-rows s (con.NotNum t) e = refl
read-rows s (con.NotShape x f n) e = by (s x)
  where
    same : (b : Bool) (c d : Con) → is_row c ≡ false → is_row d ≡ false → is_row (if b then c else d) ≡ false
    same true c d g h = g
    same false c d g h = h

    by : (t : Tm) → is_row (not_shaped t f n) ≡ false
    by (var y) = refl
    by (num q) = refl
    by (app g us) = same (has_shape f n (app g us)) (con.Neq (term_with (app g us)) (term_with (app g us))) (con.Eq (term_with (app g us)) (term_with (app g us))) refl refl

each-read : (s : Sub) (cs : List Con) → Each (λ c. is_row c ≡ false) cs → Each (λ c. is_row c ≡ false) (read_by s cs)
each-read s [] e = tt
each-read s (c ∷ cs) e = (read-rows s c e.0, each-read s cs e.1)

-- ---- the answer

pub is-false : (b : Bool) → not b ≡ true → b ≡ false
is-false true e = absurd (true≢false (sym e))
is-false false e = refl

counted-list : (s : Sub) (list all : List Con) → resolver all ≡ s → ((p : Con → Bool) → list_any p list ≡ true → list_any p all ≡ true) → list_all (is_counted s (told_by s list)) list ≡ true → Each (λ c. is_typed_con all c ≡ true) list
counted-list s list all same more e = Each-from_test (is_counted s (told_by s list)) (λ c. is_typed_con all c ≡ true) (counted-typed all list s same more) list e

rows-typed : (cs : List Con) → counts_all var cs ≡ true → is_typed cs ≡ true
rows-typed cs e =
    let k = and_parts (not (list_any is_equation cs)) (list_all (is_counted var (told_by var cs)) cs) e in
    let alone = no-equations var cs (none-of is_equation cs (is-false (list_any is_equation cs) k.0)) in
    all-typed cs cs (counted-list var cs cs alone (λ p q. q) k.1)

-- a row that reads a variable as one of these that are told counts in the whole list
num-alike : (bs ds : List Binding) (cs : List Con) → AreAlike bs ds cs → (x y : ℕ) → sub_of ds x ≡ var y → (c : Con) → is_num_of (sub_of ds) (var y) c ≡ true → is_num_of (sub_of bs) (sub_of bs x) c ≡ true
num-alike bs ds cs a x y h (con.Num t) e = by (tm_of t) ((tm_decided (under (sub_of ds) (tm_of t)) (var y)).0 e)
  where
    by : (u : Tm) → under (sub_of ds) u ≡ var y → same_tm (under (sub_of bs) u) (sub_of bs x) ≡ true
    by (var z) k = (tm_decided (sub_of bs z) (sub_of bs x)).1 (a.same z x y k h)
    by (num q) k = absurd (cc k)
    by (app f us) k = absurd (cc k)
num-alike bs ds cs a x y h (con.Row l) e = absurd (true≢false (sym e))
num-alike bs ds cs a x y h (con.Eq t w) e = absurd (true≢false (sym e))
num-alike bs ds cs a x y h (con.Neq t w) e = absurd (true≢false (sym e))
num-alike bs ds cs a x y h (con.NotShape z f n) e = absurd (true≢false (sym e))
num-alike bs ds cs a x y h (con.NotNum t) e = absurd (true≢false (sym e))

-- the whole list, in which the bindings bs are read first
whole-counts : (bs ds : List Binding) (cs list all : List Con) (r : Sub) → AreAlike bs ds cs → resolver all ≡ then_by (sub_of bs) r → ((p : Con → Bool) → list_any p cs ≡ true → list_any p all ≡ true) → ((p : Con → Bool) → list_any p list ≡ true → list_any p all ≡ true) → (x : ℕ) → is_told (told_by (sub_of ds) list) (sub_of ds x) ≡ true → counts all x ≡ true
whole-counts bs ds cs list all r a same given asked x e = by (sub_of ds x) refl e
  where
    by : (t : Tm) → sub_of ds x ≡ t → is_told (told_by (sub_of ds) list) t ≡ true → counts all x ≡ true
    by (var y) k f = counts-in all (sub_of bs) r same list asked x (or-right (is_number (sub_of bs x)) (list_any (is_num_of (sub_of bs) (sub_of bs x)) list) (any-implies (is_num_of (sub_of ds) (var y)) (is_num_of (sub_of bs) (sub_of bs x)) (num-alike bs ds cs a x y k) list (told-any (sub_of ds) y list f)))
    by (num q) k f = counts-in all (sub_of bs) r same cs given x (a.numbers x (ap is_number k))
    by (app g us) k f = absurd (true≢false (sym f))

whole-typed-con : (bs ds : List Binding) (cs list all : List Con) (r : Sub) → AreAlike bs ds cs → resolver all ≡ then_by (sub_of bs) r → ((p : Con → Bool) → list_any p cs ≡ true → list_any p all ≡ true) → ((p : Con → Bool) → list_any p list ≡ true → list_any p all ≡ true) → (c : Con) → is_counted (sub_of ds) (told_by (sub_of ds) list) c ≡ true → is_typed_con all c ≡ true
whole-typed-con bs ds cs list all r a same given asked (con.Row l) e = all-implies (λ k. is_told (told_by (sub_of ds) list) (sub_of ds k.x)) (λ k. counts all k.x) (λ k f. whole-counts bs ds cs list all r a same given asked k.x f) l.coeffs e
whole-typed-con bs ds cs list all r a same given asked (con.Eq t u) e = refl
whole-typed-con bs ds cs list all r a same given asked (con.Neq t u) e = refl
whole-typed-con bs ds cs list all r a same given asked (con.NotShape x f n) e = refl
whole-typed-con bs ds cs list all r a same given asked (con.Num t) e = refl
whole-typed-con bs ds cs list all r a same given asked (con.NotNum t) e = refl

pub whole_typed : (bs ds : List Binding) (cs : List Con) (ps : List ℕ) (more : List Con) → Triangular bs → AreAlike bs ds cs → AreOpen (sub_of ds) cs ps → are_counted (sub_of ds) (opened cs ps ++ more) ≡ true → is_typed (equations bs ++ (cs ++ more)) ≡ true
whole_typed bs ds cs ps more h a f e =
    let all : List Con = equations bs ++ (cs ++ more) in
    let list : List Con = opened cs ps ++ more in
    let k = goes-on (sub_of bs) (cs ++ more) in
    let same : resolver all ≡ then_by (sub_of bs) k.0 = resolved-behind bs (cs ++ more) h ∙ k.1 in
    let in-given : (p : Con → Bool) → list_any p cs ≡ true → list_any p all ≡ true = λ p q. any-right p (equations bs) (cs ++ more) (any-left p cs more q) in
    let in-list : (p : Con → Bool) → list_any p list ≡ true → list_any p all ≡ true = λ p. stands p (equations bs) cs ps more in
    let each = Each-from_test (is_counted (sub_of ds) (told_by (sub_of ds) list)) (λ c. is_typed_con all c ≡ true) (whole-typed-con bs ds cs list all k.0 a same in-given in-list) list e in
    let given = all-of (λ c. is_typed_con all c ≡ true) (sub_of ds) (settled-typed all (sub_of bs) k.0 (sub_of ds) cs same in-given a.numbers) cs ps f (Each-left (λ c. is_typed_con all c ≡ true) (opened cs ps) more each) in
    let rest = Each-append (λ c. is_typed_con all c ≡ true) cs more given (Each-right (λ c. is_typed_con all c ≡ true) (opened cs ps) more each) in
    join-all (is_typed_con all) (equations bs) (cs ++ more) (sorted-equations all bs) (all-typed all (cs ++ more) rest)

row-counted : (s : Sub) (ys : List ℕ) (c : Con) → is_row c ≡ false → is_counted s ys c ≡ true
row-counted s ys (con.Row r) e = absurd (true≢false e)
row-counted s ys (con.Eq t u) e = refl
row-counted s ys (con.Neq t u) e = refl
row-counted s ys (con.NotShape x f n) e = refl
row-counted s ys (con.Num t) e = refl
row-counted s ys (con.NotNum t) e = refl

pub none_counted : (s : Sub) (list : List Con) → list_any is_row list ≡ false → are_counted s list ≡ true
none_counted s list e = test_from-Each (is_counted s (told_by s list)) (λ c. is_row c ≡ false) (row-counted s (told_by s list)) list (none-of is_row list e)

pub all_counted : (s : Sub) (list : List Con) → counts_all s list ≡ true → are_counted s list ≡ true
all_counted s list e = (and_parts (not (list_any is_equation list)) (are_counted s list) e).1

-- a list that is among those that are decided, and as it reads
record AreTyped (s : Sub) (list : List Con) : Type 0 where
  pub whole : are_counted s list ≡ true
  pub short : is_typed (read_by s list) ≡ true

are-typed : (s : Sub) (list : List Con) → is_sorted s list ≡ true → AreTyped s list
are-typed s list e = by (list_any is_row list) refl e
  where
    read : List Con
    read = read_by s list

    by : (b : Bool) → list_any is_row list ≡ b → (not b || (counts_all s list && counts_all var read)) ≡ true → AreTyped s list
    by false k f = record {
      whole = none_counted s list k;
      short = all-typed read read (Each-map (λ c. is_row c ≡ false) (λ c. is_typed_con read c ≡ true) (no-row-typed read) read (each-read s list (none-of is_row list k)));
    }
    by true k f = let both = and_parts (counts_all s list) (counts_all var read) f in record { whole = all_counted s list both.0; short = rows-typed read both.1 }

-- ---- valuations and equations

equal-all : (v : Sub) (bs : List Binding) → list_all (holds v) (equations bs) ≡ true → Each (Equal v) (equations bs)
equal-all v [] e = tt
equal-all v (b ∷ bs) e = let k = and_parts (holds v (equation b)) (list_all (holds v) (equations bs)) e in ((tm_decided (v b.x) (under v (tm_of b.term))).0 k.0, equal-all v bs k.1)

all-equal : (v : Sub) (bs : List Binding) → Each (Equal v) (equations bs) → list_all (holds v) (equations bs) ≡ true
all-equal v [] e = refl
all-equal v (b ∷ bs) e = and_from (holds v (equation b)) (list_all (holds v) (equations bs)) ((tm_decided (v b.x) (under v (tm_of b.term))).1 e.0) (all-equal v bs e.1)

equal-then : (s v : Sub) (bs : List Binding) → Each (Equal s) (equations bs) → Each (Equal (then_by s v)) (equations bs)
equal-then s v [] e = tt
equal-then s v (b ∷ bs) e = (ap (under v) e.0 ∙ under-under v s (tm_of b.term), equal-then s v bs e.1)

pub solved-by : (ds : List Binding) (v : Sub) → Triangular ds → Each (Equal (then_by (sub_of ds) v)) (equations ds)
solved-by ds v h = equal-then (sub_of ds) v ds (solved-self ds h)

-- what makes the equations true reads nothing else through them
pub goes_through : (v : Sub) (fs : List Binding) → Each (Equal v) (equations fs) → then_by (sub_of fs) v ≡ v
goes_through v fs e = λ i y. absorbed v fs e y i

-- the settled constraints hold in any case
with-settled : (s : Sub) (cs : List Con) (ps : List ℕ) (more : List Con) → AreOpen s cs ps → SatUnder s (cs ++ more) ↔ SatUnder s (opened cs ps ++ more)
with-settled s cs ps more f = (to, from)
  where
    Met : Sub → Con → Type 0
    Met v c = holds (then_by s v) c ≡ true

    each : (v : Sub) (ds : List Con) → list_all (holds (then_by s v)) ds ≡ true → Each (Met v) ds
    each v ds e = Each-from_test (holds (then_by s v)) (Met v) (λ c k. k) ds e

    test : (v : Sub) (ds : List Con) → Each (Met v) ds → list_all (holds (then_by s v)) ds ≡ true
    test v ds e = test_from-Each (holds (then_by s v)) (Met v) (λ c k. k) ds e

    to : SatUnder s (cs ++ more) → SatUnder s (opened cs ps ++ more)
    to a =
        let e = each a.by.of (cs ++ more) a.meets in
        record { by = a.by; meets = test a.by.of (opened cs ps ++ more) (Each-append (Met a.by.of) (opened cs ps) more (open-of (Met a.by.of) cs ps (Each-left (Met a.by.of) cs more e)) (Each-right (Met a.by.of) cs more e)) }

    from : SatUnder s (opened cs ps ++ more) → SatUnder s (cs ++ more)
    from a =
        let e = each a.by.of (opened cs ps ++ more) a.meets in
        record { by = a.by; meets = test a.by.of (cs ++ more) (Each-append (Met a.by.of) cs more (all-of (Met a.by.of) s (λ c k. k.always a.by.of) cs ps f (Each-left (Met a.by.of) (opened cs ps) more e)) (Each-right (Met a.by.of) (opened cs ps) more e)) }

-- what meets the bindings and the constraints is read through ds
met-through : (bs ds : List Binding) (cs more : List Con) → Reads bs ds cs → Sat (equations bs ++ (cs ++ more)) ↔ SatUnder (sub_of ds) (cs ++ more)
met-through bs ds cs more h = (to, from)
  where
    to : Sat (equations bs ++ (cs ++ more)) → SatUnder (sub_of ds) (cs ++ more)
    to a =
        let v : Sub = a.by.of in
        let k = split-all (holds v) (equations bs) (cs ++ more) a.meets in
        let given = (split-all (holds v) cs more k.1).0 in
        let e = h.follow v (equal-all v bs k.0) given in
        record { by = a.by; meets = subst (λ (w : Sub). list_all (holds w) (cs ++ more) ≡ true) (sym (goes_through v ds e)) k.1 }

    from : SatUnder (sub_of ds) (cs ++ more) → Sat (equations bs ++ (cs ++ more))
    from a =
        let v : Sub = then_by (sub_of ds) a.by.of in
        let e = h.back v (solved-by ds a.by.of h.triangular) in
        record {
          by = record { of = v; ground = λ x. ground-under a.by.of (sub_of ds x) a.by.ground };
          meets = join-all (holds v) (equations bs) (cs ++ more) (all-equal v bs e) a.meets;
        }

pub alike_of : (bs ds : List Binding) (cs : List Con) → Reads bs ds cs → AreAlike bs ds cs
alike_of bs ds cs h = record { numbers = h.numbers; same = λ x z y e f. h.variables x y e ∙ sym (h.variables z y f) }

pub asked_alike : (bs : List Binding) (cs : List Con) (ds : List Binding) (fs ps : List ℕ) (more : List Con) → IsGood bs cs ds fs ps → RowsNormal (opened cs ps ++ more) → is_askable (sub_of ds) (opened cs ps ++ more) ≡ true → sat (equations bs ++ (cs ++ more)) ≡ sat (read_by (sub_of ds) (opened cs ps ++ more))
asked_alike bs cs ds fs ps more h n e =
    let s : Sub = sub_of ds in
    let list : List Con = opened cs ps ++ more in
    let k = and_parts (list_all (is_readable s) list) (is_sorted s list) e in
    let t = are-typed s list k.1 in
    let solved = solved-self ds h.reads.triangular in
    let all = sat-sorted (equations bs ++ (cs ++ more)) (typed (whole_typed bs ds cs ps more h.triangular (alike_of bs ds cs h.reads) h.places t.whole)) in
    let part = sat-sorted (read_by s list) (typed t.short) in
    let bound = met-through bs ds cs more h.reads in
    let same = with-settled s cs ps more h.places in
    let read = list-met s list (absorbed s ds solved) (all-read s list n k.0) in
    same-truth (sat (equations bs ++ (cs ++ more))) (sat (read_by s list))
    (λ q. part.1 (read.0 (same.0 (bound.0 (all.0 q)))))
    (λ q. all.1 (bound.1 (same.1 (read.1 (part.0 q)))))

pub asked_typed : (s : Sub) (list : List Con) → is_askable s list ≡ true → is_typed (read_by s list) ≡ true
asked_typed s list e =
    let k = and_parts (list_all (is_readable s) list) (is_sorted s list) e in
    (are-typed s list k.1).short

-- where nothing meets the bindings and the constraints, the list has no valuation
pub contrary_refused : (bs : List Binding) (cs : List Con) (ds : List Binding) (ps : List ℕ) (more : List Con) → IsContrary bs cs ds ps → are_counted (sub_of ds) (opened cs ps ++ more) ≡ true → sat (equations bs ++ (cs ++ more)) ≡ false
contrary_refused bs cs ds ps more h e = by (sat all) refl
  where
    all : List Con
    all = equations bs ++ (cs ++ more)

    never : Sat all → ⊥
    never a =
        let k = split-all (holds a.by.of) (equations bs) (cs ++ more) a.meets in
        h.never a.by.of (equal-all a.by.of bs k.0) (split-all (holds a.by.of) cs more k.1).0

    by : (b : Bool) → sat all ≡ b → b ≡ false
    by false k = refl
    by true k = absurd (never ((sat-sorted all (typed (whole_typed bs ds cs ps more h.triangular h.alike h.places e))).0 k))

-- ---- a list by itself

pub alone_typed : (cs : List Con) → (not (list_any is_row cs) || counts_all var cs) ≡ true → is_typed cs ≡ true
alone_typed cs e = by (list_any is_row cs) refl e
  where
    by : (b : Bool) → list_any is_row cs ≡ b → (not b || counts_all var cs) ≡ true → is_typed cs ≡ true
    by false k f = all-typed cs cs (Each-map (λ c. is_row c ≡ false) (λ c. is_typed_con cs c ≡ true) (no-row-typed cs) cs (none-of is_row cs k))
    by true k f = rows-typed cs f
