-- Literals whose first arguments clash: a call sees none of them again, and that they differ holds as it reads.
use Rattle.std.specs.Prelude.{◌≡◌, ℕ, Bool, true, false, not, ◌&&◌, ◌||◌, nat_eq, if◌then◌else◌, Option, None, Some, is_none, List, [], ◌∷◌, ◌++◌, filter, map, refl}
use Rattle.std.specs.List.{list_any}
use Rattle.std.proofs.Common.{ap, append-nil, sym, ◌∙◌}
use Rattle.std.proofs.lemmas.Bool.{and_parts, true≢false}
use Rattle.std.proofs.lemmas.Bool.Decides.{Decides-eqb}
use Rattle.std.proofs.lemmas.List.Folds.{list_any-append}
use Rattle.scasp_bound.specs.Bounds.{root_of}
use Rattle.scasp_bound.specs.declared.roots.Root.{Root}
use Rattle.scasp_loops.specs.Held.{literal_of}
use Rattle.scasp_loops.specs.Inside.Asked.{clash, clash_if, first_root, is_left_firm, is_opposed, is_seen, opposed, standing, starts_apart}
use Rattle.scasp_loops.specs.declared.entry.Entry.{Entry}
use Rattle.scasp_loops.specs.declared.entry.Marks.{Marks}
use Rattle.scasp_loops.proofs.TopLemmas.{none_of}
use Rattle.scasp_num.specs.Number.{Number}
use Rattle.scasp_search_rules.specs.declared.states.outcomes.Status.TheVariants.{Entailed, Impossible, Added, Parts}
use Rattle.scasp_search_rules.specs.declared.states.outcomes.Status.{Status}
use Rattle.scasp_search_rules.specs.declared.states.state.Literal.{Literal}
use Rattle.scasp_search_rules.specs.declared.states.state.Made.{Made}
use Rattle.scasp_search_rules.specs.declared.states.state.State.{State}
use Rattle.scasp_search_rules.specs.Successors.Assumptions.{against, along, as_read, asked_for, assume, assume_all, performed, status}
use Rattle.scasp_search_rules.specs.Successors.Calls.{differing, is_free, is_opposite, opposites}
use Rattle.scasp_search_rules.specs.Successors.Reading.{con_vars, holds_always}
use Rattle.scasp_search_rules.specs.Successors.Regions.{with_given}
use Rattle.scasp_search_rules.specs.Successors.Steps.{Step, followed}
use Rattle.scasp_search_rules.specs.Successors.Variables.{has_universal, is_empty, is_universal, meaning, universals_of}
use Rattle.scasp_syntax.proofs.SameLemmas.{tm_decided}
use Rattle.scasp_syntax.specs.Programs.{pred_of}
use Rattle.scasp_syntax.specs.Same.{same_bool, same_number, same_pred, same_tm, same_tms}
use Rattle.scasp_syntax.specs.Tm.{Tm, Tms, var, num, app, nil, cons, items}
use Rattle.scasp_syntax.specs.Values.{Sub, all_under, under}
use Rattle.scasp_syntax.specs.View.{tm_of, tms_of}
use Rattle.scasp_syntax.specs.declared.atom.Lit.{Lit}
use Rattle.scasp_syntax.specs.declared.con.Con.{Con}
use Rattle.scasp_syntax.specs.declared.con.Con.TheVariants as con
use Rattle.scasp_syntax.specs.declared.term.Term.{Term}
use Rattle.scasp_unify.proofs.SimpleLemmas.{viewed}
use Rattle.scasp_unify.specs.Parts.{Part, both_parts, parts, parts_each}
use Rattle.scasp_unify.specs.SimpleForm.{by_parts, list_term, term_with}
use Rattle.scasp_unify.specs.Solving.{sub_of}
use Rattle.scasp_unify.specs.Unification.{term_vars, terms_vars}
use Rattle.scasp_unify.specs.declared.bindings.Binding.{Binding}

-- ---- how the first of some terms begins

pub none_begins : (bs : List Binding) (xs : List Term) (ts : Tms) → tms_of xs ≡ ts → xs ≡ [] → None ≡ first_root (all_under (sub_of bs) ts)
none_begins bs xs ts e n = ap (λ (us : Tms). first_root (all_under (sub_of bs) us)) (ap tms_of (sym n) ∙ e)

pub some_begins : (bs : List Binding) (xs ys : List Term) (x : Term) (ts : Tms) (r : Root) → tms_of xs ≡ ts → xs ≡ x ∷ ys → r ≡ root_of (under (sub_of bs) (tm_of x))
    → Some r ≡ first_root (all_under (sub_of bs) ts)
some_begins bs xs ys x ts r e n q = ap Some q ∙ ap (λ (us : Tms). first_root (all_under (sub_of bs) us)) (ap tms_of (sym n) ∙ e)

-- ---- terms that clash

is-false : (b : Bool) → not b ≡ true → b ≡ false
is-false true e = absurd (true≢false (sym e))
is-false false e = refl

no-clash : (t : Tm) → clash (root_of t) (root_of t) ≡ false
no-clash (var x) = refl
no-clash (num q) = ap not ((tm_decided (num q) (num q)).1 refl)
no-clash (app f ts) = ap not ((Decides-eqb f f).1 refl)

clash-apart : (t u : Tm) → clash (root_of t) (root_of u) ≡ true → same_tm u t ≡ false
clash-apart t u c = by (same_tm u t) refl
  where
    by : (b : Bool) → same_tm u t ≡ b → same_tm u t ≡ false
    by true e = absurd (true≢false (sym c ∙ ap (λ (s : Tm). clash (root_of t) (root_of s)) ((tm_decided u t).0 e) ∙ no-clash t))
    by false e = e

-- the first of both, where it clashes with the other
clash-first : (o : Option Root) (ts us : Tms) → o ≡ first_root ts → clash_if o (first_root us) ≡ true → clash_if (first_root ts) (first_root us) ≡ true
clash-first o ts us e c = ap (λ (p : Option Root). clash_if p (first_root us)) (sym e) ∙ c

firsts-apart : (ts us : Tms) → clash_if (first_root ts) (first_root us) ≡ true → same_tms us ts ≡ false
firsts-apart nil us c = absurd (true≢false (sym c))
firsts-apart (cons t ts) nil c = absurd (true≢false (sym c))
firsts-apart (cons t ts) (cons u us) c = ap (λ (b : Bool). b && same_tms us ts) (clash-apart t u c)

last-false : (p q : Bool) → q ≡ false → false ≡ (p && q)
last-false true q e = sym e
last-false false q e = refl

pub unseen_clash : (bs : List Binding) (cases : List ℕ) (l : Lit) (first : Option Root) (e : Entry) (m : Marks) → first ≡ first_root (all_under (sub_of bs) l.atom.args)
    → starts_apart bs first e.lit ≡ true → false ≡ is_seen bs cases l (literal_of 0 e m)
unseen_clash bs cases l first e m h c =
    let us : Tms = all_under (sub_of bs) l.atom.args in
    let them : Tms = all_under (sub_of bs) e.lit.atom.args in
    last-false (is_left_firm cases (literal_of 0 e m)) _
    (none_of (not m.is_general) (same_bool e.lit.positive l.positive) (same_bool e.lit.atom.minus l.atom.minus) (nat_eq e.lit.atom.name l.atom.name) (same_tms them us)
    (firsts-apart us them (clash-first first us them h c)))

-- ---- disequations that hold as they read

parts-clash : (t u : Tm) → clash (root_of t) (root_of u) ≡ true → parts t u ≡ None
parts-clash (var x) u c = absurd (true≢false (sym c))
parts-clash (num q) (var y) c = absurd (true≢false (sym c))
parts-clash (num q) (num r) c = ap (λ (b : Bool). if b then Some [] else None) (is-false (same_number q r) c)
parts-clash (num q) (app g us) c = refl
parts-clash (app f ts) (var y) c = absurd (true≢false (sym c))
parts-clash (app f ts) (num r) c = refl
parts-clash (app f ts) (app g us) c = ap (λ (b : Bool). if b then parts_each ts us else None) (is-false (nat_eq f g) c)

lists-clash : (ts us : Tms) → clash_if (first_root ts) (first_root us) ≡ true → parts (list_term (items ts)) (list_term (items us)) ≡ None
lists-clash nil us c = absurd (true≢false (sym c))
lists-clash (cons t ts) nil c = absurd (true≢false (sym c))
lists-clash (cons t ts) (cons u us) c =
    ap (λ (o : Option (List Part)). both_parts o (parts_each (cons (list_term (items ts)) nil) (cons (list_term (items us)) nil))) (parts-clash t u c)

list-under : (v : Sub) (ts : Tms) → under v (list_term (items ts)) ≡ list_term (items (all_under v ts))
list-under v nil = refl
list-under v (cons t ts) = ap (λ (r : Tm). app 1 (cons (under v t) (cons r nil))) (list-under v ts)

side-under : (v : Sub) (ts : Tms) → under v (tm_of (term_with (list_term (items ts)))) ≡ list_term (items (all_under v ts))
side-under v ts = ap (under v) (viewed (list_term (items ts))) ∙ list-under v ts

-- the sides of a disequation of arguments, as they read
abbrev side : Sub → Tms → Term
side v ts = term_with (under v (tm_of (term_with (list_term (items ts)))))

clash-holds : (s : State) (o : Option Root) (l : Lit) (a : Literal) → o ≡ first_root (all_under (meaning s) l.atom.args) → starts_apart s.bound o a.lit ≡ true
    → holds_always (as_read s (differing l a)) ≡ true
clash-holds s o l a e c =
    ap (λ (p : Option (List Part)). holds_always (by_parts (con.Neq left right) p)) none ∙ ap is_none none
  where
    v : Sub
    v = meaning s

    left : Term
    left = side v l.atom.args

    right : Term
    right = side v a.lit.atom.args

    reads : (ts : Tms) → tm_of (side v ts) ≡ list_term (items (all_under v ts))
    reads ts = viewed (under v (tm_of (term_with (list_term (items ts))))) ∙ side-under v ts

    none : parts (tm_of left) (tm_of right) ≡ None
    none =
        (λ i. parts (reads l.atom.args i) (reads a.lit.atom.args i))
        ∙ lists-clash (all_under v l.atom.args) (all_under v a.lit.atom.args) (clash-first o (all_under v l.atom.args) (all_under v a.lit.atom.args) e c)

-- ---- disequations without universal variables

list-vars : (ts : Tms) → term_vars (list_term (items ts)) ≡ terms_vars ts
list-vars nil = refl
list-vars (cons t ts) = ap (λ (xs : List ℕ). term_vars t ++ xs) (append-nil (term_vars (list_term (items ts))) ∙ list-vars ts)

none-passes : (p : ℕ → Bool) (xs : List ℕ) → list_any p xs ≡ false → filter p xs ≡ []
none-passes p [] h = refl
none-passes p (x ∷ xs) h = by (p x) refl h (none-passes p xs)
  where
    by : (b : Bool) → p x ≡ b → (b || list_any p xs) ≡ false → (list_any p xs ≡ false → filter p xs ≡ []) → (if b then x ∷ filter p xs else filter p xs) ≡ []
    by true e k r = absurd (true≢false k)
    by false e k r = r k

side-vars : (s : State) (l : Lit) → is_free s l ≡ true → has_universal s (term_vars (under (meaning s) (tm_of (term_with (list_term (items l.atom.args)))))) ≡ false
side-vars s l h =
    ap (has_universal s) (ap term_vars (side-under (meaning s) l.atom.args) ∙ list-vars (all_under (meaning s) l.atom.args))
    ∙ is-false (has_universal s (terms_vars (all_under (meaning s) l.atom.args))) h

no-universals : (s : State) (l : Lit) (a : Literal) → is_free s l ≡ true → is_free s a.lit ≡ true → is_empty (universals_of s (differing l a)) ≡ true
no-universals s l a h k =
    ap is_empty
    (none-passes (is_universal s) (con_vars (meaning s) (differing l a))
    (list_any-append (is_universal s) (term_vars (under (meaning s) (tm_of (term_with (list_term (items l.atom.args)))))) (term_vars (under (meaning s) (tm_of (term_with (list_term (items a.lit.atom.args))))))
    ∙ (λ i. side-vars s l h i || side-vars s a.lit k i)))

-- ---- constraints that are assumed

assumed-held : (sat : List Con → Bool) (t : State) (c : Con) (f : State → Step) → holds_always (as_read t c) ≡ true → followed (assume sat t c) f ≡ f t
assumed-held sat t c f h =
    (λ i. followed (record { asked = asked i; states = performed t (as_read t c) (entailed i) }) f)
    ∙ (λ i. record { asked = append-nil (f t).asked i; states = append-nil (f t).states i })
  where
    asked : asked_for sat t c ≡ []
    asked = ap (λ (b : Bool). if b then [] else (if sat (against t c) then against t c ∷ along t c ∷ [] else against t c ∷ [])) h

    entailed : status sat t c ≡ Entailed
    entailed =
        ap (λ (b : Bool).
        if b then Entailed
        else (if not (sat (against t c)) then Entailed
        else (if not (sat (along t c)) then Impossible else (if is_empty (universals_of t c) then Added else Parts)))) h

assumed-then : (sat : List Con → Bool) (t : State) (c : Con) (f g : State → Step) → is_empty (universals_of t c) ≡ true → f t ≡ g t → ((d : Con) → f (with_given t d) ≡ g (with_given t d))
    → followed (assume sat t c) f ≡ followed (assume sat t c) g
assumed-then sat t c f g e h k =
    ap (λ (st : Status). followed (at st) f) plain
    ∙ by (holds_always (as_read t c)) (not (sat (against t c))) (not (sat (along t c)))
    ∙ sym (ap (λ (st : Status). followed (at st) g) plain)
  where
    at : Status → Step
    at st = record { asked = asked_for sat t c; states = performed t (as_read t c) st }

    of : Bool → Bool → Bool → Status
    of x y z = if x then Entailed else (if y then Entailed else (if z then Impossible else Added))

    plain : status sat t c ≡ of (holds_always (as_read t c)) (not (sat (against t c))) (not (sat (along t c)))
    plain =
        ap (λ (b : Bool).
        if holds_always (as_read t c) then Entailed
        else (if not (sat (against t c)) then Entailed
        else (if not (sat (along t c)) then Impossible else (if b then Added else Parts)))) e

    one : (u : State) → f u ≡ g u → followed (record { asked = asked_for sat t c; states = u ∷ [] }) f ≡ followed (record { asked = asked_for sat t c; states = u ∷ [] }) g
    one u p = λ i. record { asked = asked_for sat t c ++ ((p i).asked ++ []); states = (p i).states ++ [] }

    by : (x y z : Bool) → followed (at (of x y z)) f ≡ followed (at (of x y z)) g
    by true y z = one t h
    by false true z = one t h
    by false false true = refl
    by false false false = one (with_given t (as_read t c)) (k (as_read t c))

-- ---- opposites that are left out

free-of : (s : State) (l : Lit) (a : Literal) → is_opposite s l a ≡ true → is_free s a.lit ≡ true
free-of s l a e =
    (and_parts (not (same_bool a.lit.positive l.positive) && same_pred (pred_of a.lit.atom) (pred_of l.atom) && not a.is_general) (is_free s a.lit) e).1

-- the constraints on these literals
abbrev on_opposed : State → Option Root → Lit → List Literal → List Con
on_opposed s o l ls = map (differing l) (filter (is_opposed s o l) ls)

abbrev on_opposite : State → Lit → List Literal → List Con
on_opposite s l ls = map (differing l) (filter (is_opposite s l) ls)

assumed-same : (sat : List Con → Bool) (o : Option Root) (l : Lit) (ls : List Literal) (t : State) → is_free t l ≡ true → o ≡ first_root (all_under (meaning t) l.atom.args)
    → assume_all sat (on_opposed t o l ls) t ≡ assume_all sat (on_opposite t l ls) t
assumed-same sat o l [] t h k = refl
assumed-same sat o l (a ∷ ls) t h k = by (is_opposite t l a) refl (starts_apart t.bound o a.lit) refl (assumed-same sat o l ls)
  where
    Rest : Type 0
    Rest = (u : State) → is_free u l ≡ true → o ≡ first_root (all_under (meaning u) l.atom.args) → assume_all sat (on_opposed u o l ls) u ≡ assume_all sat (on_opposite u l ls) u

    by : (b : Bool) → is_opposite t l a ≡ b → (c : Bool) → starts_apart t.bound o a.lit ≡ c → Rest
        → assume_all sat (map (differing l) (if not c && b then a ∷ filter (is_opposed t o l) ls else filter (is_opposed t o l) ls)) t
        ≡ assume_all sat (map (differing l) (if b then a ∷ filter (is_opposite t l) ls else filter (is_opposite t l) ls)) t
    by false e true d r = r t h k
    by false e false d r = r t h k
    by true e true d r = r t h k ∙ sym (assumed-held sat t (differing l a) (assume_all sat (on_opposite t l ls)) (clash-holds t o l a k d))
    by true e false d r =
        assumed-then sat t (differing l a) (assume_all sat (on_opposed t o l ls)) (assume_all sat (on_opposite t l ls)) (no-universals t l a h (free-of t l a e)) (r t h k) (λ c. r (with_given t c) h k)

-- in order, those that are left are assumed as all are
left-out : (sat : List Con → Bool) (s : State) (l : Lit) (first : Option Root) → first ≡ first_root (all_under (meaning s) l.atom.args)
    → assume_all sat (map (differing l) (opposed s first l)) s ≡ assume_all sat (map (differing l) (opposites s l)) s
left-out sat s l first h = by (is_free s l) refl
  where
    by : (b : Bool) → is_free s l ≡ b
        → assume_all sat (map (differing l) (if b then filter (is_opposed s first l) s.literals else [])) s ≡ assume_all sat (map (differing l) (if b then filter (is_opposite s l) s.literals else [])) s
    by true e = assumed-same sat first l s.literals s e h
    by false e = refl

pub assumed_alike : (s : State) (made : List Made) (bs : List Binding) (ls : List Literal) (l : Lit) (first : Option Root) (cs : List Con) → s.literals ≡ ls → s.bound ≡ bs → s.made ≡ made
    → first ≡ first_root (all_under (sub_of bs) l.atom.args) → cs ≡ map (differing l) (opposed (standing made bs ls) first l)
    → (sat : List Con → Bool) → assume_all sat cs s ≡ assume_all sat (map (differing l) (opposites s l)) s
assumed_alike s made bs ls l first cs e b m h n sat =
    ap (λ (ds : List Con). assume_all sat ds s) (n ∙ (λ i. map (differing l) (opposed (standing (sym m i) (sym b i) (sym e i)) first l)))
    ∙ left-out sat s l first (h ∙ ap (λ (xs : List Binding). first_root (all_under (sub_of xs) l.atom.args)) (sym b))
