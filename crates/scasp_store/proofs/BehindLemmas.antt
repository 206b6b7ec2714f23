-- What the given constraints are read by behind one more binding, one more number, or fewer bindings.
use Rattle.std.proofs.Common.{◌≡◌, ◌⊎◌, inl, inr, ◌<◌, ℕ, Bool, true, false, ◌||◌, not, nat_eq, if◌then◌else◌, List, [], ◌∷◌, ◌++◌, map, length, Result, Ok, Err, OnOk, refl, sym, ap, subst, ◌∙◌}
use Rattle.std.specs.List.{list_all, list_any}
use Rattle.std.proofs.lemmas.Bool.{eqb-true, true≢false}
use Rattle.std.proofs.lemmas.Bool.Decides.{Decides-eqb}
use Rattle.scasp_bound.specs.Bounds.{among, unbound}
use Rattle.scasp_list.specs.Each.{Each}
use Rattle.scasp_law_parts.specs.Bound.{IsFree, Triangular, equations}
use Rattle.scasp_law_parts.proofs.BoundLemmas.{absorbed}
use Rattle.scasp_law_parts.proofs.TriangularLemmas.{fewer-triangular, more-triangular, solved-self}
use Rattle.scasp_syntax.specs.Constraints.{holds, is_number}
use Rattle.scasp_syntax.specs.Tm.{Tm, var, num, app}
use Rattle.scasp_syntax.specs.Values.{Sub, under}
use Rattle.scasp_syntax.specs.View.{tm_of}
use Rattle.scasp_syntax.specs.Same.{same_tm}
use Rattle.scasp_syntax.specs.declared.con.Con.{Con}
use Rattle.scasp_syntax.specs.declared.con.Con.TheVariants as con
use Rattle.scasp_syntax.specs.declared.term.Term.{Term}
use Rattle.scasp_syntax.proofs.SameLemmas.{tm_decided}
use Rattle.scasp_syntax.proofs.ValueLemmas.{under-under}
use Rattle.scasp_unify.specs.Numbers.{is_num_of}
use Rattle.scasp_unify.specs.Resolver.{Equal}
use Rattle.scasp_unify.specs.Solving.{sub_of}
use Rattle.scasp_unify.specs.Unification.{single}
use Rattle.scasp_unify.specs.declared.bindings.Binding.{Binding}
use Rattle.scasp_unify.proofs.SolvingLemmas.{sub-push, under-var}
use Rattle.scasp_unify.proofs.UnificationLemmas.{single-absent}
use Rattle.scasp_store.specs.Inside.Behind.{AreCompared, IsPushed}
use Rattle.scasp_store.specs.Inside.Failing.{Tells}
use Rattle.scasp_store.specs.Inside.Fixing.{Leaves, Says}
use Rattle.scasp_store.specs.Inside.Open.{GoodOf, IsContrary, IsGood, IsNew, KnownOf}
use Rattle.scasp_store.specs.declared.rest.Known.{Known}
use Rattle.scasp_store.specs.declared.rest.Known.TheVariants as known
use Rattle.scasp_store.specs.declared.rest.Rest.{Rest}
use Rattle.scasp_store.specs.Inside.Reads.{Reads, counts_by}
use Rattle.scasp_store.proofs.AskLemmas.{counts-stay, goes_through, or-right}
use Rattle.scasp_store.proofs.FailLemmas.{any-at}
use Rattle.scasp_store.proofs.FixLemmas.{each-more, number-same, says-there}
use Rattle.scasp_store.proofs.KeepLemmas.{open-more}
use Rattle.scasp_store.proofs.OpenLemmas.{all-open}
use Rattle.scasp_store.proofs.TrueLemmas.{always}
use Rattle.scasp_search_rules.specs.Successors.Reading.{holds_always}

-- ---- one substitution more

read-more : (bs : List Binding) (b : Binding) (z : ℕ) → sub_of (bs ++ b ∷ []) z ≡ under (single b.x (tm_of b.term)) (sub_of bs z)
read-more bs b z = ap (λ (s : Sub). s z) (sub-push bs b)

other : (x : ℕ) (t : Tm) (y : ℕ) → nat_eq y x ≡ false → single x t y ≡ var y
other x t y e = rw e refl

itself : (x : ℕ) (t : Tm) → single x t x ≡ t
itself x t = let same : nat_eq x x ≡ true = (Decides-eqb x x).1 refl in rw same refl

after-single : (x : ℕ) (t : Tm) (w : ℕ) (u : Tm) → single x t w ≡ u → ((w ≡ x) × (t ≡ u)) ⊎ ((nat_eq w x ≡ false) × (var w ≡ u))
after-single x t w u e = by (nat_eq w x) refl e
  where
    by : (b : Bool) → nat_eq w x ≡ b → (if b then t else var w) ≡ u → ((w ≡ x) × (t ≡ u)) ⊎ ((nat_eq w x ≡ false) × (var w ≡ u))
    by true k f = inl (eqb-true w x k, f)
    by false k f = inr (k, f)

-- a number put in makes no variable
same-variable : (x : ℕ) (t : Tm) → is_number t ≡ true → (u : Tm) (y : ℕ) → under (single x t) u ≡ var y → u ≡ var y
same-variable x t n (var w) y e = by (after-single x t w (var y) e)
  where
    by : ((w ≡ x) × (t ≡ var y)) ⊎ ((nat_eq w x ≡ false) × (var w ≡ var y)) → var w ≡ var y
    by (inl k) = absurd (true≢false (sym n ∙ ap is_number k.1))
    by (inr k) = k.1
same-variable x t n (num q) y e = absurd (cc e)
same-variable x t n (app f us) y e = absurd (cc e)

-- a number was one before, or is put in
number-or : (x : ℕ) (t u : Tm) → is_number (under (single x t) u) ≡ true → (is_number u ≡ true) ⊎ ((u ≡ var x) × (is_number t ≡ true))
number-or x t (var w) e = by (nat_eq w x) refl e
  where
    by : (b : Bool) → nat_eq w x ≡ b → is_number (if b then t else var w) ≡ true → (is_number (var w) ≡ true) ⊎ ((var w ≡ var x) × (is_number t ≡ true))
    by true k f = inr (ap var (eqb-true w x k), f)
    by false k f = absurd (true≢false (sym f))
number-or x t (num q) e = inl refl
number-or x t (app f us) e = absurd (true≢false (sym e))

-- the variable and the term of a new binding read as they stand
free-reads : (bs : List Binding) (b : Binding) → Each (λ a. IsFree a.x b) bs → (sub_of bs b.x ≡ var b.x) × (under (sub_of bs) (tm_of b.term) ≡ tm_of b.term)
free-reads [] b e = (refl, under-var (tm_of b.term))
free-reads (a ∷ bs) b e =
    let k = free-reads bs b e.1 in
    let g : Sub = single a.x (tm_of a.term) in
    (ap (under (sub_of bs)) (other a.x (tm_of a.term) b.x e.0.0) ∙ k.0, sym (under-under (sub_of bs) g (tm_of b.term)) ∙ ap (under (sub_of bs)) (single-absent a.x (tm_of a.term) (tm_of b.term) e.0.1) ∙ k.1)

-- the equations of one binding less
each-less : (v : Sub) (fs : List Binding) (b : Binding) → Each (Equal v) (equations (fs ++ b ∷ [])) → Each (Equal v) (equations fs) × (v b.x ≡ under v (tm_of b.term))
each-less v [] b e = (tt, e.0)
each-less v (f ∷ fs) b e = let k = each-less v fs b e.1 in ((e.0, k.0), k.1)

through : (v : Sub) (ds : List Binding) → Each (Equal v) (equations ds) → (t : Tm) → under v t ≡ under v (under (sub_of ds) t)
through v ds e t = ap (λ (w : Sub). under w t) (sym (goes_through v ds e)) ∙ sym (under-under v (sub_of ds) t)

counts-more : (bs : List Binding) (b : Binding) (cs : List Con) (z : ℕ) → counts_by (sub_of bs) cs z ≡ true → counts_by (sub_of (bs ++ b ∷ [])) cs z ≡ true
counts-more bs b cs z e = ap (λ (s : Sub). counts_by s cs z) (sub-push bs b) ∙ counts-stay (sub_of bs) (single b.x (tm_of b.term)) cs cs (λ p k. k) z e

-- ---- the bindings alone

self-reads : (bs : List Binding) (cs : List Con) → Triangular bs → Reads bs bs cs
self-reads bs cs t = record {
  triangular = t;
  follow = λ v e m. e;
  back = λ v e. e;
  variables = λ x y e. e;
  numbers = λ x e. ap (λ b. b || list_any (is_num_of (sub_of bs) (sub_of bs x)) cs) e;
}

pub good_alone : (bs : List Binding) (cs : List Con) (ds : List Binding) (fs ps : List ℕ) → ds ≡ bs → Triangular bs → ((i : ℕ) → i < length cs → among i ps ≡ true) → IsGood bs cs ds fs ps
good_alone bs cs ds fs ps e t f = subst (λ xs. IsGood bs cs xs fs ps) (sym e) record { triangular = t; reads = self-reads bs cs t; places = all-open (sub_of bs) cs ps f; plain = λ _. refl }

pub good_plain : (bs : List Binding) (cs : List Con) (ds : List Binding) (fs ps : List ℕ) (b : Binding) → fs ≡ [] → IsNew bs b → IsGood bs cs ds fs ps → IsGood (bs ++ b ∷ []) cs (ds ++ b ∷ []) fs ps
good_plain bs cs ds fs ps b e n h =
    let t = more-triangular bs b h.triangular n.0 n.1 in
    record {
      triangular = t;
      reads = subst (λ xs. Reads (bs ++ b ∷ []) (xs ++ b ∷ []) cs) (sym (h.plain e)) (self-reads (bs ++ b ∷ []) cs t);
      places = open-more ds cs ps b h.places;
      plain = λ f. ap (λ xs. xs ++ b ∷ []) (h.plain f);
    }

none-kept : (xs : List ℕ) (bs : List Binding) → Each (λ b. among b.x xs ≡ true) bs → unbound xs [] bs ≡ []
none-kept xs [] e = refl
none-kept xs (b ∷ bs) e = ap (λ c. if (not c || false) then b ∷ unbound xs [] bs else unbound xs [] bs) e.0 ∙ none-kept xs bs e.1

all-among : (all bs : List Binding) → ((x : ℕ) → among x (map (λ (b : Binding). b.x) bs) ≡ true → among x (map (λ (b : Binding). b.x) all) ≡ true) → Each (λ b. among b.x (map (λ (b : Binding). b.x) all) ≡ true) bs
all-among all [] f = tt
all-among all (b ∷ bs) f = (f b.x (here (Decides-eqb b.x b.x).1), all-among all bs (λ x e. f x (or-right (nat_eq x b.x) (among x (map (λ (b : Binding). b.x) bs)) e)))
  where
    here : (b.x ≡ b.x → nat_eq b.x b.x ≡ true) → (nat_eq b.x b.x || among b.x (map (λ (b : Binding). b.x) bs)) ≡ true
    here k = ap (λ c. c || among b.x (map (λ (b : Binding). b.x) bs)) (k refl)

-- none is left where the bindings of all their variables are taken out
pub none_left : (bs : List Binding) → unbound (map (λ (b : Binding). b.x) bs) [] bs ≡ []
none_left bs = none-kept (map (λ (b : Binding). b.x) bs) bs (all-among bs bs (λ x e. e))

-- ---- a number that a constraint leaves

not-nil : {T : Type 0} (xs : List T) (x : T) → xs ++ x ∷ [] ≡ [] → ⊥
not-nil [] x e = absurd (cc e)
not-nil (y ∷ xs) x e = absurd (cc e)

pub good_fixed : (bs : List Binding) (cs : List Con) (ds : List Binding) (fs ps : List ℕ) (b : Binding) (c : Con) → Tells (sub_of ds) b.x cs → IsNew ds b → Leaves ds c b → Says cs c → IsGood bs cs ds fs ps → IsGood bs cs (ds ++ b ∷ []) (fs ++ b.x ∷ []) ps
good_fixed bs cs ds fs ps b c t n l s h = record {
  triangular = h.triangular;
  reads = record {
    triangular = more-triangular ds b h.reads.triangular n.0 n.1;
    follow = λ v e m. let k = h.reads.follow v e m in each-more v ds b k (l.only v k (number v k m) (s v m) ∙ sym (number-same v (tm_of b.term) l.number));
    back = λ v e. h.reads.back v (each-less v ds b e).0;
    variables = λ z y e. h.reads.variables z y (same-variable b.x (tm_of b.term) l.number (sub_of ds z) y (sym (read-more ds b z) ∙ e));
    numbers = λ z e. counted z (number-or b.x (tm_of b.term) (sub_of ds z) (ap is_number (sym (read-more ds b z)) ∙ e));
  };
  places = open-more ds cs ps b h.places;
  plain = λ e. absurd (not-nil fs b.x e);
}
  where
    number : (v : Sub) → Each (Equal v) (equations ds) → list_all (holds v) cs ≡ true → is_number (v b.x) ≡ true
    number v k m = ap is_number (sym (ap (under v) t.reads) ∙ sym (through v ds k (tm_of t.term))) ∙ says-there v cs t.at (con.Num t.term) t.there m

    told : (z : ℕ) → sub_of ds z ≡ var b.x → (u : Tm) → under (sub_of ds) u ≡ var b.x → under (sub_of bs) u ≡ sub_of bs z
    told z k (var w) e = h.reads.variables w b.x e ∙ sym (h.reads.variables z b.x k)
    told z k (num q) e = absurd (cc e)
    told z k (app f us) e = absurd (cc e)

    counted : (z : ℕ) → (is_number (sub_of ds z) ≡ true) ⊎ ((sub_of ds z ≡ var b.x) × (is_number (tm_of b.term) ≡ true)) → counts_by (sub_of bs) cs z ≡ true
    counted z (inl k) = h.reads.numbers z k
    counted z (inr k) = or-right (is_number (sub_of bs z)) (list_any (is_num_of (sub_of bs) (sub_of bs z)) cs) (any-at (is_num_of (sub_of bs) (sub_of bs z)) cs t.at (con.Num t.term) t.there ((tm_decided (under (sub_of bs) (tm_of t.term)) (sub_of bs z)).1 (told z k.0 (tm_of t.term) t.reads)))

-- ---- one more binding, where numbers are left to variables

-- of a variable with a number, to what reads as this number
pub good_same : (bs : List Binding) (cs : List Con) (ds : List Binding) (fs ps : List ℕ) (b : Binding) → IsNew bs b → (fs ≡ [] → ⊥) → is_number (sub_of ds b.x) ≡ true → sub_of ds b.x ≡ under (sub_of ds) (tm_of b.term) → IsGood bs cs ds fs ps → IsGood (bs ++ b ∷ []) cs ds fs ps
good_same bs cs ds fs ps b n o q r h = record {
  triangular = more-triangular bs b h.triangular n.0 n.1;
  reads = record {
    triangular = h.reads.triangular;
    follow = λ v e m. h.reads.follow v (each-less v bs b e).0 m;
    back = λ v e. each-more v bs b (h.reads.back v e) (through v ds e (var b.x) ∙ ap (under v) r ∙ sym (through v ds e (tm_of b.term)));
    variables = λ z y e. read-more bs b z ∙ ap (under (single b.x (tm_of b.term))) (h.reads.variables z y e) ∙ apart z y e (nat_eq y b.x) refl;
    numbers = λ z e. counts-more bs b cs z (h.reads.numbers z e);
  };
  places = h.places;
  plain = λ e. absurd (o e);
}
  where
    apart : (z y : ℕ) → sub_of ds z ≡ var y → (c : Bool) → nat_eq y b.x ≡ c → single b.x (tm_of b.term) y ≡ var y
    apart z y e false k = other b.x (tm_of b.term) y k
    apart z y e true k =
        let once : sub_of ds y ≡ var y = sym (ap (under (sub_of ds)) e) ∙ absorbed (sub_of ds) ds (solved-self ds h.reads.triangular) z ∙ e in
        absurd (true≢false (sym q ∙ ap (λ w. is_number (sub_of ds w)) (sym (eqb-true y b.x k)) ∙ ap is_number once))

-- of a variable that reads as it stands
pub good_read : (bs : List Binding) (cs : List Con) (ds : List Binding) (fs ps : List ℕ) (b r : Binding) → r.x ≡ b.x → tm_of r.term ≡ under (sub_of ds) (tm_of b.term) → IsNew bs b → IsNew ds r → (fs ≡ [] → ⊥) → IsGood bs cs ds fs ps → IsGood (bs ++ b ∷ []) cs (ds ++ r ∷ []) fs ps
good_read bs cs ds fs ps b r x p n m o h = record {
  triangular = more-triangular bs b h.triangular n.0 n.1;
  reads = record {
    triangular = more-triangular ds r h.reads.triangular m.0 m.1;
    follow = λ v e g. let k = each-less v bs b e in let d = h.reads.follow v k.0 g in each-more v ds r d (ap v x ∙ k.1 ∙ through v ds d (tm_of b.term) ∙ ap (under v) (sym p));
    back = λ v e. let k = each-less v ds r e in each-more v bs b (h.reads.back v k.0) (ap v (sym x) ∙ k.1 ∙ ap (under v) p ∙ sym (through v ds k.0 (tm_of b.term)));
    variables = λ z y e. named z y (sub_of ds z) refl (sym (read-more ds r z) ∙ e);
    numbers = λ z e. counted z (number-or r.x (tm_of r.term) (sub_of ds z) (ap is_number (sym (read-more ds r z)) ∙ e));
  };
  places = open-more ds cs ps r h.places;
  plain = λ e. absurd (o e);
}
  where
    free : (sub_of bs b.x ≡ var b.x) × (under (sub_of bs) (tm_of b.term) ≡ tm_of b.term)
    free = free-reads bs b n.1

    whole : Sub
    whole = sub_of (bs ++ b ∷ [])

    -- what read as the variable reads as the term
    bound : (z : ℕ) → sub_of ds z ≡ var r.x → whole z ≡ tm_of b.term
    bound z k = read-more bs b z ∙ ap (under (single b.x (tm_of b.term))) (h.reads.variables z r.x k ∙ ap var x) ∙ itself b.x (tm_of b.term)

    variable : (t : Tm) (y : ℕ) → under (sub_of ds) t ≡ var y → under (sub_of bs) t ≡ var y
    variable (var u) y e = h.reads.variables u y e
    variable (num q) y e = absurd (cc e)
    variable (app f us) y e = absurd (cc e)

    named-by : (z y w : ℕ) → sub_of ds z ≡ var w → ((w ≡ r.x) × (tm_of r.term ≡ var y)) ⊎ ((nat_eq w r.x ≡ false) × (var w ≡ var y)) → whole z ≡ var y
    named-by z y w k (inl e) = bound z (k ∙ ap var e.0) ∙ sym free.1 ∙ variable (tm_of b.term) y (sym p ∙ e.1)
    named-by z y w k (inr e) = read-more bs b z ∙ ap (under (single b.x (tm_of b.term))) (h.reads.variables z w k) ∙ other b.x (tm_of b.term) w (ap (nat_eq w) (sym x) ∙ e.0) ∙ e.1

    named : (z y : ℕ) (t : Tm) → sub_of ds z ≡ t → under (single r.x (tm_of r.term)) t ≡ var y → whole z ≡ var y
    named z y (var w) k e = named-by z y w k (after-single r.x (tm_of r.term) w (var y) e)
    named z y (num q) k e = absurd (cc e)
    named z y (app f us) k e = absurd (cc e)

    stands : under whole (tm_of b.term) ≡ tm_of b.term
    stands = ap (λ (s : Sub). under s (tm_of b.term)) (sub-push bs b) ∙ sym (under-under (single b.x (tm_of b.term)) (sub_of bs) (tm_of b.term)) ∙ ap (under (single b.x (tm_of b.term))) free.1 ∙ single-absent b.x (tm_of b.term) (tm_of b.term) n.0

    term-counts : (t : Tm) → under whole t ≡ t → is_number (under (sub_of ds) t) ≡ true → (is_number t || list_any (is_num_of whole t) cs) ≡ true
    term-counts (num q) s e = refl
    term-counts (var u) s e = ap (λ t. is_number t || list_any (is_num_of whole t) cs) (sym s) ∙ counts-more bs b cs u (h.reads.numbers u e)
    term-counts (app f us) s e = absurd (true≢false (sym e))

    counted : (z : ℕ) → (is_number (sub_of ds z) ≡ true) ⊎ ((sub_of ds z ≡ var r.x) × (is_number (tm_of r.term) ≡ true)) → counts_by whole cs z ≡ true
    counted z (inl k) = counts-more bs b cs z (h.reads.numbers z k)
    counted z (inr k) = ap (λ t. is_number t || list_any (is_num_of whole t) cs) (bound z k.0) ∙ term-counts (tm_of b.term) stands (ap is_number (sym p) ∙ k.1)

-- of a variable with a number, to what is never this number
pub contrary_bound : (bs : List Binding) (cs : List Con) (ds : List Binding) (fs ps : List ℕ) (b : Binding) → IsNew bs b → ((v : Sub) → under v (sub_of ds b.x) ≡ under v (under (sub_of ds) (tm_of b.term)) → ⊥) → IsGood bs cs ds fs ps → IsContrary (bs ++ b ∷ []) cs ds ps
contrary_bound bs cs ds fs ps b n never h = record {
  triangular = more-triangular bs b h.triangular n.0 n.1;
  never = λ v e m.
      let k = each-less v bs b e in
      let d = h.reads.follow v k.0 m in
      never v (sym (through v ds d (var b.x)) ∙ k.1 ∙ through v ds d (tm_of b.term));
  alike = record {
    numbers = λ z e. counts-more bs b cs z (h.reads.numbers z e);
    same = λ x z y e f. read-more bs b x ∙ ap (under (single b.x (tm_of b.term))) (h.reads.variables x y e ∙ sym (h.reads.variables z y f)) ∙ sym (read-more bs b z);
  };
  places = h.places;
}

pub contrary_more : (bs : List Binding) (cs : List Con) (ds : List Binding) (ps : List ℕ) (b : Binding) → IsNew bs b → IsContrary bs cs ds ps → IsContrary (bs ++ b ∷ []) cs ds ps
contrary_more bs cs ds ps b n h = record {
  triangular = more-triangular bs b h.triangular n.0 n.1;
  never = λ v e m. h.never v (each-less v bs b e).0 m;
  alike = record {
    numbers = λ z e. counts-more bs b cs z (h.alike.numbers z e);
    same = λ x z y e f. read-more bs b x ∙ ap (under (single b.x (tm_of b.term))) (h.alike.same x z y e f) ∙ sym (read-more bs b z);
  };
  places = h.places;
}

-- ---- terms that are compared

pub always_apart : (t u : Term) → holds_always (con.Neq t u) ≡ true → (v : Sub) → under v (tm_of t) ≡ under v (tm_of u) → ⊥
always_apart t u e v k =
    let same : same_tm (under v (tm_of t)) (under v (tm_of u)) ≡ true = (tm_decided (under v (tm_of t)) (under v (tm_of u))).1 k in
    true≢false (sym (always (con.Neq t u) e v) ∙ ap not same)

pub always_same : (t u : Term) → holds_always (con.Eq t u) ≡ true → tm_of t ≡ tm_of u
always_same t u e = (tm_decided (tm_of t) (tm_of u)).0 e

-- ---- what is known behind one more binding

pub known_compared : (k : Known) (left right : Term) (r : Rest) (b : Binding) (bs : List Binding) (cs : List Con) → AreCompared k left right → tm_of left ≡ sub_of r.reading.now b.x → tm_of right ≡ under (sub_of r.reading.now) (tm_of b.term) → (r.fixed.now ≡ [] → ⊥) → IsNew bs b → GoodOf bs cs r → KnownOf true k (bs ++ b ∷ []) cs r
known_compared known.Nothing left right r b bs cs a e f o n h = tt
known_compared known.Read left right r b bs cs a e f o n h = good_same bs cs r.reading.now r.fixed.now r.places.now b n o (ap is_number (sym e) ∙ a.0) (sym e ∙ a.1 ∙ f) h
known_compared known.Contrary left right r b bs cs a e f o n h = contrary_bound bs cs r.reading.now r.fixed.now r.places.now b n (λ v k. a v (ap (under v) e ∙ k ∙ ap (under v) (sym f))) h

pub known_pushed : (k : Known) (p : Binding) (old new : Rest) (b : Binding) (bs : List Binding) (cs : List Con) → IsPushed k p old new → p.x ≡ b.x → tm_of p.term ≡ under (sub_of old.reading.now) (tm_of b.term) → (old.fixed.now ≡ [] → ⊥) → IsNew bs b → GoodOf bs cs old → KnownOf true k (bs ++ b ∷ []) cs new
known_pushed known.Nothing p old new b bs cs a e f o n h = tt
known_pushed known.Contrary p old new b bs cs a e f o n h = absurd a
known_pushed known.Read p old new b bs cs a e f o n h =
    let good = good_read bs cs old.reading.now old.fixed.now old.places.now b p e f n a.fresh o h in
    subst (λ x. IsGood (bs ++ b ∷ []) cs x new.fixed.now new.places.now) (sym a.reading)
    (subst (λ x. IsGood (bs ++ b ∷ []) cs (old.reading.now ++ p ∷ []) x new.places.now) (sym a.fixed)
    (subst (λ x. IsGood (bs ++ b ∷ []) cs (old.reading.now ++ p ∷ []) old.fixed.now x) (sym a.places) good))

-- a copy of the binding is put behind the others
pub known_plain : (p : Binding) (ds : List Binding) (fs ps : List ℕ) (xs : List Binding) (b : Binding) (bs : List Binding) (cs : List Con) → xs ≡ ds ++ p ∷ [] → p ≡ b → fs ≡ [] → IsNew bs b → IsGood bs cs ds fs ps → IsGood (bs ++ b ∷ []) cs xs fs ps
known_plain p ds fs ps xs b bs cs e f o n h = subst (λ ys. IsGood (bs ++ b ∷ []) cs ys fs ps) (sym (e ∙ ap (λ q. ds ++ q ∷ []) f)) (good_plain bs cs ds fs ps b o n h)

pub nothing_in : {T : Type 0} (xs : List T) → length xs ≡ 0 → xs ≡ []
nothing_in [] e = refl
nothing_in (x ∷ xs) e = absurd (cc e)

-- ---- fewer bindings

pub good_less : (bs : List Binding) (cs : List Con) (ds es : List Binding) (fs ps qs : List ℕ) (us but : List ℕ) → fs ≡ [] → es ≡ unbound us but ds → ((i : ℕ) → i < length cs → among i qs ≡ true) → IsGood bs cs ds fs ps → IsGood (unbound us but bs) cs es fs qs
good_less bs cs ds es fs ps qs us but o e f h = good_alone (unbound us but bs) cs es fs qs (e ∙ ap (unbound us but) (h.plain o)) (fewer-triangular (λ b. not (among b.x us) || among b.x but) bs h.triangular) f

pub fewer_triangular : (bs : List Binding) (us but : List ℕ) → Triangular bs → Triangular (unbound us but bs)
fewer_triangular bs us but h = fewer-triangular (λ b. not (among b.x us) || among b.x but) bs h

pub then_ok : {A E P Q : Type 0} (r : Result A E) → (P → Q) → OnOk r P → OnOk r Q
then_ok (Ok a) f h = f h
then_ok (Err e) f h = tt
