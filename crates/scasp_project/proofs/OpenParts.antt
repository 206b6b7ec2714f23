-- Where the dropped variables that are no numbers stand for themselves, no disequation of them fails.
use Rattle.std.proofs.Common.{◌≡◌, ◌≢◌, ◌⊎◌, inl, inr, ℕ, Bool, true, false, not, ◌&&◌, Some, None, Option, List, [], ◌∷◌, ◌++◌, refl, sym, ap, subst, ◌∙◌}
use Rattle.std.specs.Prelude.{if◌then◌else◌, ◌||◌, nat_eq}
use Rattle.std.specs.List.{list_any, Contains}
use Rattle.std.proofs.lemmas.Bool.{and_parts, eqb-true, or_cases, or_parts, true≢false}
use Rattle.std.proofs.lemmas.Bool.Decides.{Decides-eqb}
use Rattle.std.proofs.lemmas.List.Folds.{list_any-append}
use Rattle.scasp_num.specs.declared.linear.Op.TheVariants as op
use Rattle.scasp_num.specs.Arithmetic.{◌>>=◌, negation_of}
use Rattle.scasp_num.specs.Linear.{Linear}
use Rattle.scasp_num.specs.Number.{Number, zero_number}
use Rattle.scasp_num.specs.Values.{Holds}
use Rattle.scasp_num.proofs.Exact.{bind-some}
use Rattle.scasp_num.proofs.Kept.{normal_of-op}
use Rattle.scasp_list.specs.Each.{Each}
use Rattle.scasp_rows.specs.Points.{RationalPoint}
use Rattle.scasp_syntax.specs.Constraints.{holds}
use Rattle.scasp_syntax.specs.Tm.{Tm, Tms, var, num, app, nil, cons}
use Rattle.scasp_syntax.specs.Values.{Sub, Valuation, are_ground, is_ground, under, all_under}
use Rattle.scasp_syntax.specs.View.{tm_of}
use Rattle.scasp_syntax.specs.declared.con.Con.{Con}
use Rattle.scasp_syntax.specs.declared.con.Con.TheVariants as con
use Rattle.scasp_syntax.proofs.ValueLemmas.{differ_decided}
use Rattle.scasp_unify.specs.Parts.{Part, left_side, occurs, occurs_among, parts, right_side}
use Rattle.scasp_unify.specs.Points.{read_as}
use Rattle.scasp_unify.specs.SimpleForm.{differ, term_with}
use Rattle.scasp_unify.specs.Unification.{term_vars, terms_vars}
use Rattle.scasp_unify.proofs.SimpleLemmas.{viewed}
use Rattle.scasp_unify.proofs.UnificationLemmas.{Fair, Fits, IfParts, Within, WithinEach, equation-fair, has}
use Rattle.scasp_hint.specs.ExactRows.{difference}
use Rattle.scasp_hint.specs.Sides.{less, minus_one, more, one}
use Rattle.scasp_hint.specs.Verdicts.{left_above, left_below}
use Rattle.scasp_hint.proofs.ExactLemmas.{difference-holds}
use Rattle.scasp_hint.proofs.SatisfyingLemmas.{above-differs, below-differs}
use Rattle.scasp_hint.proofs.SidesLemmas.{less-holds, more-holds}
use Rattle.scasp_project.specs.Choices.{is_mixed, part_options, part_rows, parts_options}
use Rattle.scasp_project.specs.Dropped.{Reading, is_between, is_dropped, is_dropped_number, is_number_by, part_has, parts_have}
use Rattle.scasp_project.proofs.KeptLemmas.{under-same}
use Rattle.std.proofs.lemmas.List.Elements.{Contains-append_cases}
use Rattle.scasp_list.proofs.MemberLemmas.{Contains-none, Contains-single, Contains-cases}

and-right : (a b : Bool) → (a && b) ≡ false → a ≡ true → b ≡ false
and-right true b e f = e
and-right false b e f = absurd (true≢false (sym f))

or-plain : (b c : Bool) → (b || false) ≡ c → b ≡ c
or-plain true c e = e
or-plain false c e = e

self : (x : ℕ) → nat_eq x x ≡ true
self x = (Decides-eqb x x).1 refl

var-is : (x y : ℕ) → ◌≡◌ {A = Tm} (var x) (var y) → x ≡ y
var-is x y e = cc

num-is : (q r : Number) → ◌≡◌ {A = Tm} (num q) (num r) → q ≡ r
num-is q r e = cc

pub no-var : (t : Tm) (x : ℕ) → is_ground t ≡ true → t ≡ var x → ⊥
no-var t x g e = true≢false (sym g ∙ ap is_ground e)

-- ---- the variables of parts are those of the sides

has-lack : (test : ℕ → Bool) (x : ℕ) (vs : List ℕ) → has x vs ≡ true → list_any test vs ≡ false → test x ≡ false
has-lack test x [] e f = absurd (true≢false (sym e))
has-lack test x (y ∷ vs) e f = by (λ k l. has-lack test x vs k l) (or_cases (nat_eq x y) (has x vs) e)
  where
    lacks : (test y ≡ false) × (list_any test vs ≡ false)
    lacks = or_parts (test y) (list_any test vs) f

    by : (has x vs ≡ true → list_any test vs ≡ false → test x ≡ false) → (nat_eq x y ≡ true) ⊎ (has x vs ≡ true) → test x ≡ false
    by later (inl k) = ap test (eqb-true x y k) ∙ lacks.0
    by later (inr k) = later k lacks.1

mutual
  vars-lack : (test : ℕ → Bool) (vs : List ℕ) (t : Tm) → Within vs t → list_any test vs ≡ false → list_any test (term_vars t) ≡ false
  vars-lack test vs (var x) h f = ap (λ b. b || false) (has-lack test x vs (h x (self x)) f)
  vars-lack test vs (num q) h f = refl
  vars-lack test vs (app g ts) h f = all-lack test vs ts h f

  all-lack : (test : ℕ → Bool) (vs : List ℕ) (ts : Tms) → WithinEach vs ts → list_any test vs ≡ false → list_any test (terms_vars ts) ≡ false
  all-lack test vs nil h f = refl
  all-lack test vs (cons t ts) h f =
      list_any-append test (term_vars t) (terms_vars ts)
      ∙ ap (λ b. b || list_any test (terms_vars ts)) (vars-lack test vs t (λ x e. h x (ap (λ b. b || occurs_among x ts) e)) f)
      ∙ all-lack test vs ts (λ x e. h x (ap (λ b. occurs x t || b) e ∙ or-all (occurs x t))) f
    where
      or-all : (b : Bool) → (b || true) ≡ true
      or-all true = refl
      or-all false = refl

fair-lack : (test : ℕ → Bool) (vs : List ℕ) (ps : List Part) → Each (Fair vs) ps → list_any test vs ≡ false → list_any (part_has test) ps ≡ false
fair-lack test vs [] h f = refl
fair-lack test vs (p ∷ ps) h f =
    (λ i. (has-lack test p.at vs h.0.at_within f i || vars-lack test vs p.term h.0.term_within f i) || list_any (part_has test) ps) ∙ fair-lack test vs ps h.1 f

parts-lack : (test : ℕ → Bool) (t u : Tm) → list_any test (term_vars t) ≡ false → list_any test (term_vars u) ≡ false → parts_have test (parts t u) ≡ false
parts-lack test t u e f = by (parts t u) (equation-fair t u)
  where
    none : list_any test (term_vars t ++ term_vars u) ≡ false
    none = list_any-append test (term_vars t) (term_vars u) ∙ ap (λ b. b || list_any test (term_vars u)) e ∙ f

    by : (o : Option (List Part)) → IfParts o (Fair (term_vars t ++ term_vars u)) → parts_have test o ≡ false
    by None h = refl
    by (Some ps) h = fair-lack test (term_vars t ++ term_vars u) ps h none

abbrev pub Absent : Part → Type 0
Absent p = occurs p.at p.term ≡ false

pub parts-absent : (t u : Tm) → IfParts (parts t u) Absent
parts-absent t u = by (parts t u) (equation-fair t u)
  where
    all : (ps : List Part) → Each (Fair (term_vars t ++ term_vars u)) ps → Each Absent ps
    all [] h = tt
    all (p ∷ ps) h = (h.0.absent, all ps h.1)

    by : (o : Option (List Part)) → IfParts o (Fair (term_vars t ++ term_vars u)) → IfParts o Absent
    by None h = tt
    by (Some ps) h = all ps h

mutual
  pub under-var : (t : Tm) → under var t ≡ t
  under-var (var x) = refl
  under-var (num q) = refl
  under-var (app f ts) = ap (app f) (all-var ts)

  all-var : (ts : Tms) → all_under var ts ≡ ts
  all-var nil = refl
  all-var (cons t ts) = let p = under-var t in let q = all-var ts in cc

-- ---- rows of a part

less-op : (x : ℕ) (t : Tm) (row : Linear) → Some row ≡ less x t → row.op ≡ op.Lt
less-op x (var y) row e = normal_of-op (record { x = x; value = one } ∷ record { x = y; value = minus_one } ∷ []) zero_number op.Lt row e
less-op x (num q) row e = normal_of-op (record { x = x; value = one } ∷ []) (negation_of q) op.Lt row e
less-op x (app f ts) row e = cc

more-op : (x : ℕ) (t : Tm) (row : Linear) → Some row ≡ more x t → row.op ≡ op.Lt
more-op x (var y) row e = normal_of-op (record { x = x; value = minus_one } ∷ record { x = y; value = one } ∷ []) zero_number op.Lt row e
more-op x (num q) row e = normal_of-op (record { x = x; value = minus_one } ∷ []) q op.Lt row e
more-op x (app f ts) row e = cc

strict : (r : Linear) → r.op ≡ op.Lt → r.op ≢ op.Ne
strict r e n = let no : op.Lt ≡ op.Ne = sym e ∙ n in cc

difference-is : (x : ℕ) (t : Tm) → (difference x t op.Ne).op ≡ op.Ne
difference-is x (var y) = refl
difference-is x (num q) = refl
difference-is x (app f ts) = refl

difference-apart : (v : RationalPoint) (x : ℕ) (t : Tm) → Holds v (difference x t op.Ne) → v x ≡ read_as v x t → ⊥
difference-apart v x (var y) h e = h ((difference-holds v x (var y)).1 e)
difference-apart v x (num q) h e = h ((difference-holds v x (num q)).1 e)
difference-apart v x (app f ts) h e = h ((difference-holds v x (app f ts)).1 e)

-- either row of a part says that its sides differ
side-apart : (v : RationalPoint) (p : Part) (row : Linear) → (Some row ≡ left_below p) ⊎ (Some row ≡ left_above p) → (row.op ≢ op.Ne) × (Holds v row → v p.at ≡ read_as v p.at p.term → ⊥)
side-apart v p row e = by p.turned e
  where
    is : (difference p.at p.term op.Ne).op ≡ op.Ne
    is = difference-is p.at p.term

    low : Some row ≡ less p.at p.term → (row.op ≢ op.Ne) × (Holds v row → v p.at ≡ read_as v p.at p.term → ⊥)
    low e = (strict row (less-op p.at p.term row e), λ h. difference-apart v p.at p.term (below-differs v (difference p.at p.term op.Ne) is ((less-holds p.at p.term row e v).0 h)))

    high : Some row ≡ more p.at p.term → (row.op ≢ op.Ne) × (Holds v row → v p.at ≡ read_as v p.at p.term → ⊥)
    high e = (strict row (more-op p.at p.term row e), λ h. difference-apart v p.at p.term (above-differs v (difference p.at p.term op.Ne) is ((more-holds p.at p.term row e v).0 h)))

    by : (t : Bool) → (Some row ≡ (if t then more p.at p.term else less p.at p.term)) ⊎ (Some row ≡ (if t then less p.at p.term else more p.at p.term)) → (row.op ≢ op.Ne) × (Holds v row → v p.at ≡ read_as v p.at p.term → ⊥)
    by true (inl e) = high e
    by true (inr e) = low e
    by false (inl e) = low e
    by false (inr e) = high e

-- where both sides of a part are the same number, no row of it stands among rows that the point meets
pub rows-open : (v : RationalPoint) (ds : List Con) → ((r : Linear) → Contains ds (con.Row r) → r.op ≢ op.Ne → Holds v r) → (p : Part) (os : List Con) → v p.at ≡ read_as v p.at p.term → part_rows p ≡ Some os → (o : Con) → Contains os o → Contains ds o → ⊥
rows-open v ds rows p os equal e o i j = which (subst (λ (cs : List Con). Contains cs o) same i)
  where
    f : (a : Linear) × (Some a ≡ left_below p) × (Some os ≡ (left_above p >>= (λ b. Some (con.Row a ∷ con.Row b ∷ []))))
    f = bind-some (left_below p) (λ a. left_above p >>= (λ b. Some (con.Row a ∷ con.Row b ∷ []))) os (sym e)

    g : (c : Linear) × (Some c ≡ left_above p) × (◌≡◌ {A = Option (List Con)} (Some os) (Some (con.Row f.0 ∷ con.Row c ∷ [])))
    g = bind-some (left_above p) (λ b. Some (con.Row f.0 ∷ con.Row b ∷ [])) os f.2

    same : os ≡ con.Row f.0 ∷ con.Row g.0 ∷ []
    same = let k = g.2 in cc

    row : (r : Linear) → (Some r ≡ left_below p) ⊎ (Some r ≡ left_above p) → Contains ds (con.Row r) → ⊥
    row r e j = let side = side-apart v p r e in side.1 (rows r j side.0) equal

    which : Contains (con.Row f.0 ∷ con.Row g.0 ∷ []) o → ⊥
    which k =
        elim (Contains-cases (con.Row f.0) (con.Row g.0 ∷ []) o k) [
          | inl first ↦ row f.0 (inl f.1) (subst (Contains ds) (sym first) j)
          | inr second ↦ row g.0 (inr g.1) (subst (Contains ds) (sym (Contains-single (con.Row g.0) o second)) j)
        ]

-- ---- values of the kept variables, numbers for the dropped ones, and each other variable itself

abbrev pub valued : Reading → Sub → (ℕ → Number) → Sub
valued s v p x = if is_dropped s.keep x then (if s.number x then num (p x) else var x) else v x

module _ (s : Reading) (v : Valuation) (p : ℕ → Number) where
  pub valued-kept : (x : ℕ) → is_dropped s.keep x ≡ false → valued s v.of p x ≡ v.of x
  valued-kept x e i = if e i then (if s.number x then num (p x) else var x) else v.of x

  pub valued-number : (x : ℕ) → is_dropped s.keep x ≡ true → s.number x ≡ true → valued s v.of p x ≡ num (p x)
  valued-number x e f i = if e i then (if f i then num (p x) else var x) else v.of x

  pub valued-open : (x : ℕ) → is_dropped s.keep x ≡ true → s.number x ≡ false → valued s v.of p x ≡ var x
  valued-open x e f i = if e i then (if f i then num (p x) else var x) else v.of x

  mutual
    open-term : (t : Tm) → list_any (is_dropped s.keep) (term_vars t) ≡ true → list_any (is_dropped_number s) (term_vars t) ≡ false → is_ground (under (valued s v.of p) t) ≡ false
    open-term (var x) e f =
        let d = or-plain (is_dropped s.keep x) true e in
        ap is_ground (valued-open x d (and-right (is_dropped s.keep x) (s.number x) (or-plain (is_dropped_number s x) false f) d))
    open-term (num q) e f = absurd (true≢false (sym e))
    open-term (app g ts) e f = open-terms ts e f

    open-terms : (ts : Tms) → list_any (is_dropped s.keep) (terms_vars ts) ≡ true → list_any (is_dropped_number s) (terms_vars ts) ≡ false → are_ground (all_under (valued s v.of p) ts) ≡ false
    open-terms nil e f = absurd (true≢false (sym e))
    open-terms (cons t ts) e f =
        let k = or_parts (list_any (is_dropped_number s) (term_vars t)) (list_any (is_dropped_number s) (terms_vars ts)) (sym (list_any-append (is_dropped_number s) (term_vars t) (terms_vars ts)) ∙ f) in
        by (or_cases (list_any (is_dropped s.keep) (term_vars t)) (list_any (is_dropped s.keep) (terms_vars ts)) (sym (list_any-append (is_dropped s.keep) (term_vars t) (terms_vars ts)) ∙ e)) (λ h. open-term t h k.0) (λ h. open-terms ts h k.1)
      where
        none : (b : Bool) → (b && false) ≡ false
        none true = refl
        none false = refl

        by : (list_any (is_dropped s.keep) (term_vars t) ≡ true) ⊎ (list_any (is_dropped s.keep) (terms_vars ts) ≡ true) → (list_any (is_dropped s.keep) (term_vars t) ≡ true → is_ground (under (valued s v.of p) t) ≡ false) → (list_any (is_dropped s.keep) (terms_vars ts) ≡ true → are_ground (all_under (valued s v.of p) ts) ≡ false) → (is_ground (under (valued s v.of p) t) && are_ground (all_under (valued s v.of p) ts)) ≡ false
        by (inl h) first rest = ap (λ b. b && are_ground (all_under (valued s v.of p) ts)) (first h)
        by (inr h) first rest = ap (λ b. is_ground (under (valued s v.of p) t) && b) (rest h) ∙ none (is_ground (under (valued s v.of p) t))

  -- a part that speaks of a dropped variable, and of no dropped number, does not fit
  pub part-open : (q : Part) → Absent q → part_has (is_dropped s.keep) q ≡ true → part_has (is_dropped_number s) q ≡ false → Fits (valued s v.of p) q → ⊥
  part-open q absent e f fits = by (is_dropped s.keep q.at) refl
    where
      lacks : (is_dropped_number s q.at ≡ false) × (list_any (is_dropped_number s) (term_vars q.term) ≡ false)
      lacks = or_parts (is_dropped_number s q.at) (list_any (is_dropped_number s) (term_vars q.term)) f

      against : (t : Tm) → occurs q.at t ≡ false → list_any (is_dropped_number s) (term_vars t) ≡ false → under (valued s v.of p) t ≡ var q.at → ⊥
      against (var z) a k same = kept (is_dropped s.keep z) refl
        where
          kept : (b : Bool) → is_dropped s.keep z ≡ b → ⊥
          kept true d =
              let is : z ≡ q.at = var-is z q.at (sym (valued-open z d (and-right (is_dropped s.keep z) (s.number z) (or-plain (is_dropped_number s z) false k) d)) ∙ same) in
              true≢false (sym (self q.at) ∙ ap (nat_eq q.at) (sym is) ∙ a)
          kept false d = no-var (v.of z) q.at (v.ground z) (sym (valued-kept z d) ∙ same)
      against (num r) a k same = cc
      against (app g ts) a k same = cc

      by : (b : Bool) → is_dropped s.keep q.at ≡ b → ⊥
      by true d = against q.term absent lacks.1 (sym fits ∙ valued-open q.at d (and-right (is_dropped s.keep q.at) (s.number q.at) lacks.0 d))
      by false d =
          let rest : list_any (is_dropped s.keep) (term_vars q.term) ≡ true = sym (ap (λ b. b || list_any (is_dropped s.keep) (term_vars q.term)) d) ∙ e in
          true≢false (sym (v.ground q.at) ∙ ap is_ground (sym (valued-kept q.at d) ∙ fits) ∙ open-term q.term rest lacks.1)

  -- no list of parts fits of which some part speaks of a dropped variable, and none of a dropped number
  pub parts-open : (qs : List Part) → Each Absent qs → list_any (part_has (is_dropped s.keep)) qs ≡ true → list_any (part_has (is_dropped_number s)) qs ≡ false → Each (Fits (valued s v.of p)) qs → ⊥
  parts-open [] a e f fits = true≢false (sym e)
  parts-open (q ∷ qs) a e f fits = by (λ h k. parts-open qs a.1 h k fits.1) (or_cases (part_has (is_dropped s.keep) q) (list_any (part_has (is_dropped s.keep)) qs) e)
    where
      lacks : (part_has (is_dropped_number s) q ≡ false) × (list_any (part_has (is_dropped_number s)) qs ≡ false)
      lacks = or_parts (part_has (is_dropped_number s) q) (list_any (part_has (is_dropped_number s)) qs) f

      by : (list_any (part_has (is_dropped s.keep)) qs ≡ true → list_any (part_has (is_dropped_number s)) qs ≡ false → ⊥) → (part_has (is_dropped s.keep) q ≡ true) ⊎ (list_any (part_has (is_dropped s.keep)) qs ≡ true) → ⊥
      by later (inl h) = part-open q a.0 h lacks.0 fits.0
      by later (inr h) = later h lacks.1

  -- what the point and the valuation meet
  module _ (ds : List Con) (counts : (x : ℕ) → s.number x ≡ true → valued s v.of p x ≡ num (p x)) (plain : s.resolver ≡ var) (rows : (r : Linear) → Contains ds (con.Row r) → r.op ≢ op.Ne → Holds p r) (holding : (t u : Tm) → Contains ds (differ t u) → parts_have (is_dropped s.keep) (parts t u) ≡ false → holds v.of (differ t u) ≡ true) where
    -- of parts that fit no option stands in the list
    option-open : (q : Part) (os : List Con) → Fits (valued s v.of p) q → Absent q → is_mixed s q ≡ false → part_options s.number q ≡ Some os → (o : Con) → Contains os o → Contains ds o → ⊥
    option-open q os fits absent mixed e o i j = by (is_between s.number q) refl e
      where
        equal : (t : Tm) → s.number q.at ≡ true → is_number_by s.number t ≡ true → valued s v.of p q.at ≡ under (valued s v.of p) t → p q.at ≡ read_as p q.at t
        equal (var z) a b same = num-is (p q.at) (p z) (sym (counts q.at a) ∙ same ∙ counts z b)
        equal (num r) a b same = num-is (p q.at) r (sym (counts q.at a) ∙ same)
        equal (app g ts) a b same = absurd (true≢false (sym b))

        apart : part_has (is_dropped s.keep) q ≡ false → Contains ds (differ (left_side q) (right_side q)) → ⊥
        apart none j =
            let lacks = or_parts (is_dropped s.keep q.at) (list_any (is_dropped s.keep) (term_vars q.term)) none in
            let here = valued-kept q.at lacks.0 in
            let there = under-same s.keep v.of (valued s v.of p) (λ x d. valued-kept x d) q.term lacks.1 in
            let same : v.of q.at ≡ under v.of q.term = sym here ∙ fits ∙ there in
            turned q.turned lacks.0 lacks.1 same j
          where
            turned : (t : Bool) → is_dropped s.keep q.at ≡ false → list_any (is_dropped s.keep) (term_vars q.term) ≡ false → v.of q.at ≡ under v.of q.term → Contains ds (differ (if t then q.term else var q.at) (if t then var q.at else q.term)) → ⊥
            turned true a b same j = (differ_decided (under v.of (tm_of (term_with q.term))) (under v.of (tm_of (term_with (var q.at))))).0 (holding q.term (var q.at) j (parts-lack (is_dropped s.keep) q.term (var q.at) b (ap (λ t. t || false) a))) (ap (under v.of) (viewed q.term) ∙ sym same)
            turned false a b same j = (differ_decided (under v.of (tm_of (term_with (var q.at)))) (under v.of (tm_of (term_with q.term)))).0 (holding (var q.at) q.term j (parts-lack (is_dropped s.keep) (var q.at) q.term (ap (λ t. t || false) a) b)) (same ∙ sym (ap (under v.of) (viewed q.term)))

        differs : (b : Bool) → part_has (is_dropped s.keep) q ≡ b → is_between s.number q ≡ false → Contains ds (differ (left_side q) (right_side q)) → ⊥
        differs true h n j = part-open q absent h (and-left (part_has (is_dropped_number s) q) (not (is_between s.number q)) mixed (ap not n)) fits
          where
            and-left : (a b : Bool) → (a && b) ≡ false → b ≡ true → a ≡ false
            and-left true b e f = absurd (true≢false (sym f ∙ e))
            and-left false b e f = refl
        differs false h n j = apart h j

        by : (b : Bool) → is_between s.number q ≡ b → (if b then part_rows q else Some (differ (left_side q) (right_side q) ∷ [])) ≡ Some os → ⊥
        by true b e = let both = and_parts (s.number q.at) (is_number_by s.number q.term) b in rows-open p ds rows q os (equal q.term both.0 both.1 fits) e o i j
        by false b e =
            let same : os ≡ differ (left_side q) (right_side q) ∷ [] = cc in
            which (subst (λ (cs : List Con). Contains cs o) same i)
          where
            which : Contains (differ (left_side q) (right_side q) ∷ []) o → ⊥
            which k = differs (part_has (is_dropped s.keep) q) refl b (subst (Contains ds) (sym (Contains-single (differ (left_side q) (right_side q)) o k)) j)

    pub options-open : (qs : List Part) (os : List Con) → Each (Fits (valued s v.of p)) qs → Each Absent qs → list_any (is_mixed s) qs ≡ false → parts_options s.number qs ≡ Some os → (o : Con) → Contains os o → Contains ds o → ⊥
    options-open [] os fits a m e o i j = let same : os ≡ [] = cc in Contains-none o (subst (λ (cs : List Con). Contains cs o) same i)
    options-open (q ∷ qs) os fits a m e o i j =
        let lacks = or_parts (is_mixed s q) (list_any (is_mixed s) qs) m in
        let f = bind-some (part_options s.number q) (λ os. parts_options s.number qs >>= (λ rest. Some (os ++ rest))) os (sym e) in
        let g = bind-some (parts_options s.number qs) (λ rest. Some (f.0 ++ rest)) os f.2 in
        let same : os ≡ f.0 ++ g.0 = cc in
        by f.0 g.0 (subst (λ (cs : List Con). Contains cs o) same i) (λ k. option-open q f.0 fits.0 a.0 lacks.0 (sym f.1) o k j) (λ k. options-open qs g.0 fits.1 a.1 lacks.1 (sym g.1) o k j)
      where
        by : (first rest : List Con) → Contains (first ++ rest) o → (Contains first o → ⊥) → (Contains rest o → ⊥) → ⊥
        by first rest i h k = elim (Contains-append_cases first rest o i) [ inl j ↦ h j | inr j ↦ k j ]
