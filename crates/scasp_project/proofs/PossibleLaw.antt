-- Each list to which a sorted list projects has a valuation.
use Rattle.std.proofs.Common.{◌≡◌, ◌⊎◌, inl, inr, ℕ, Bool, true, false, not, ◌&&◌, ◌+◌, Some, None, Option, List, [], ◌∷◌, ◌++◌, refl, sym, ap, subst, ◌∙◌}
use Rattle.std.specs.Prelude.{if◌then◌else◌, ◌||◌, filter, map, ⊤}
use Rattle.std.specs.List.{list_any, Contains}
use Rattle.std.proofs.lemmas.Bool.{and_from, and_parts, or_parts, true≢false}
use Rattle.std.proofs.lemmas.List.Folds.{list_all-append}
use Rattle.scasp_num.specs.declared.linear.Coeff.{Coeff}
use Rattle.scasp_num.specs.declared.linear.Op.{Op}
use Rattle.scasp_num.specs.declared.linear.Op.TheVariants as op
use Rattle.scasp_num.specs.Arithmetic.{◌>>=◌}
use Rattle.scasp_num.specs.Linear.{Linear}
use Rattle.scasp_num.specs.Values.{Holds}
use Rattle.scasp_num.proofs.Exact.{bind-some}
use Rattle.scasp_num.proofs.Valuations.{negation-holds}
use Rattle.scasp_list.specs.Each.{Each}
use Rattle.scasp_list.proofs.EachLemmas.{Each-append, Each-both, Each-filter, Each-from_test, Each-map}
use Rattle.scasp_rows.specs.Points.{MeetsAll, RationalPoint}
use Rattle.scasp_syntax.specs.Constraints.{Meets, Sat, has_shape, holds, is_number}
use Rattle.scasp_syntax.specs.RowTruth.{number_of, point}
use Rattle.scasp_syntax.specs.Tm.{Tm, var, num, app, nil}
use Rattle.scasp_syntax.specs.Values.{Sub, Valuation, under}
use Rattle.scasp_syntax.specs.View.{tm_of}
use Rattle.scasp_syntax.specs.declared.con.Con.{Con}
use Rattle.scasp_syntax.specs.declared.con.Con.TheVariants as con
use Rattle.scasp_syntax.specs.declared.term.Term.{Term}
use Rattle.scasp_syntax.proofs.SameLemmas.{tm_decided}
use Rattle.scasp_unify.specs.Numbers.{counts, is_among_numbers, is_num_of, is_number_term, number_var}
use Rattle.scasp_unify.specs.Parts.{Part, left_side, parts, right_side}
use Rattle.scasp_unify.specs.PointMeets.{PartsDiffer, PointMeets}
use Rattle.scasp_unify.specs.Points.{read_as, through}
use Rattle.scasp_unify.specs.Resolver.{resolver, unifies}
use Rattle.scasp_unify.specs.SimpleForm.{differ}
use Rattle.scasp_unify.specs.Sorted.{Sorted, apart, is_typed, is_typed_con, partly, typed}
use Rattle.scasp_unify.specs.TermFailures.{fails_by_terms, is_compound, is_identity, is_refuted}
use Rattle.scasp_unify.specs.Unification.{term_vars}
use Rattle.scasp_unify.proofs.PointLemmas.{bridge, holds-same}
use Rattle.scasp_unify.proofs.ResolverLemmas.{complete-list}
use Rattle.scasp_unify.proofs.SortedLemmas.{sat-some}
use Rattle.scasp_unify.proofs.ValuationLemmas.{chosen, list_bound, some-meets, sorted-met, valuation}
use Rattle.scasp_hint.specs.AskedRows.{RowsNormal, given_rows, inequalities}
use Rattle.scasp_hint.specs.ExactRows.{difference}
use Rattle.scasp_hint.specs.Sides.{above, below, less, more}
use Rattle.scasp_hint.specs.Verdicts.{left_above, left_below}
use Rattle.scasp_hint.proofs.AskedLemmas.{inequalities-each}
use Rattle.scasp_hint.proofs.SidesLemmas.{less-holds, more-holds}
use Rattle.scasp_project.specs.Choices.{options, options_by, part_options, part_rows, parts_options, row_options, speak_of_dropped}
use Rattle.scasp_project.specs.Dropped.{Reading, con_has, is_between, is_dropped, is_dropped_number, is_number_by, part_has, parts_in, reading_of, row_has}
use Rattle.scasp_project.specs.Meaning.{IfAlternatives, IsNoEquation}
use Rattle.scasp_project.specs.Projection.{is_new, kept, projection, remaining, stays}
use Rattle.scasp_project.specs.declared.projecting.Projected.{Projected}
use Rattle.scasp_project.specs.declared.projecting.Projected.TheVariants as projected
use Rattle.scasp_project.proofs.ForwardLemmas.{is_met_by}
use Rattle.scasp_project.proofs.KeptLemmas.{held-rows}
use Rattle.scasp_project.proofs.MetLaw.{no-equations, number-con, resolved-var}
use Rattle.scasp_project.proofs.OpenParts.{rows-open}
use Rattle.scasp_project.proofs.RowLaw.{points-same}
use Rattle.scasp_project.proofs.SourceLemmas.{IsOption, Source, left-asked, only-asked, options-are, passing, row-meets, row-met, sources}
use Rattle.std.proofs.lemmas.List.Elements.{Contains-append_left, Contains-append_cases}
use Rattle.scasp_list.proofs.MemberLemmas.{Contains-none, list_all-from, list_all-member, list_any-from, list_any-none_from, Contains-filter, Contains-from_filter}
use Rattle.scasp_unify.proofs.Members.{Each-member, Each-from, Each-self}

-- ---- rows that speak of some variables alone

-- the two points agree on these variables
abbrev Agree : (ℕ → Bool) → RationalPoint → RationalPoint → Type 0
Agree n p q = (y : ℕ) → n y ≡ true → p y ≡ q y

-- whether a point meets the row depends on these variables alone
abbrev Speaks : (ℕ → Bool) → Linear → Type 0
Speaks n r = (p q : RationalPoint) → Agree n p q → Holds p r → Holds q r

abbrev Has : (ℕ → Bool) → Linear → Type 0
Has n r = Each (λ k. n k.x ≡ true) r.coeffs

-- a constraint that is no equation, and no row with other variables
abbrev Given : (ℕ → Bool) → Con → Type 0
Given n (con.Eq t u) = ⊥
Given n (con.Neq t u) = ⊤
Given n (con.NotShape x f a) = ⊤
Given n (con.Num t) = ⊤
Given n (con.NotNum t) = ⊤
Given n (con.Row r) = Has n r

-- a constraint that is no equation, and no row that speaks of other variables
abbrev Plain : (ℕ → Bool) → Con → Type 0
Plain n (con.Eq t u) = ⊥
Plain n (con.Neq t u) = ⊤
Plain n (con.NotShape x f a) = ⊤
Plain n (con.Num t) = ⊤
Plain n (con.NotNum t) = ⊤
Plain n (con.Row r) = Speaks n r

has-speaks : (n : ℕ → Bool) (r : Linear) → Has n r → Speaks n r
has-speaks n r h p q a = holds-same p q r (Each-map (λ k. n k.x ≡ true) (λ k. p k.x ≡ q k.x) (λ k e. a k.x e) r.coeffs h)

above-speaks : (n : ℕ → Bool) (r : Linear) → Has n r → Speaks n (above r)
above-speaks n r h p q a m =
    let most : Linear = record { coeffs = r.coeffs; constant = r.constant; op = op.Le } in
    (negation-holds most (above r) refl q).1 (λ k. (negation-holds most (above r) refl p).0 m (has-speaks n most h q p (λ y e. sym (a y e)) k))

difference-has : (n : ℕ → Bool) (x : ℕ) (t : Tm) → n x ≡ true → is_number_by n t ≡ true → Has n (difference x t op.Ne)
difference-has n x (var y) a b = (a, (b, tt))
difference-has n x (num q) a b = (a, tt)
difference-has n x (app f ts) a b = tt

less-speaks : (n : ℕ → Bool) (x : ℕ) (t : Tm) (row : Linear) → Some row ≡ less x t → n x ≡ true → is_number_by n t ≡ true → Speaks n row
less-speaks n x t row e a b p q g m = (less-holds x t row e q).1 (has-speaks n (below (difference x t op.Ne)) (difference-has n x t a b) p q g ((less-holds x t row e p).0 m))

more-speaks : (n : ℕ → Bool) (x : ℕ) (t : Tm) (row : Linear) → Some row ≡ more x t → n x ≡ true → is_number_by n t ≡ true → Speaks n row
more-speaks n x t row e a b p q g m = (more-holds x t row e q).1 (above-speaks n (difference x t op.Ne) (difference-has n x t a b) p q g ((more-holds x t row e p).0 m))

given-plain : (n : ℕ → Bool) (c : Con) → Given n c → Plain n c
given-plain n (con.Eq t u) h = h
given-plain n (con.Neq t u) h = tt
given-plain n (con.NotShape x f a) h = tt
given-plain n (con.Num t) h = tt
given-plain n (con.NotNum t) h = tt
given-plain n (con.Row r) h = has-speaks n r h

-- what may stand for such a constraint is plain, where each number is among these variables
module _ (s : Reading) (n : ℕ → Bool) (wider : (y : ℕ) → s.number y ≡ true → n y ≡ true) where
  number-wider : (t : Tm) → is_number_by s.number t ≡ true → is_number_by n t ≡ true
  number-wider (var y) e = wider y e
  number-wider (num q) e = refl
  number-wider (app f ts) e = e

  part-plain : (p : Part) (os : List Con) → part_options s.number p ≡ Some os → Each (Plain n) os
  part-plain p os e = by (is_between s.number p) refl e
    where
      either : (b : Bool) (row : Linear) → n p.at ≡ true → is_number_by n p.term ≡ true → Some row ≡ (if b then more p.at p.term else less p.at p.term) → Speaks n row
      either true row a c e = more-speaks n p.at p.term row e a c
      either false row a c e = less-speaks n p.at p.term row e a c

      other : (b : Bool) (row : Linear) → n p.at ≡ true → is_number_by n p.term ≡ true → Some row ≡ (if b then less p.at p.term else more p.at p.term) → Speaks n row
      other true row a c e = less-speaks n p.at p.term row e a c
      other false row a c e = more-speaks n p.at p.term row e a c

      by : (b : Bool) → is_between s.number p ≡ b → (if b then part_rows p else Some (differ (left_side p) (right_side p) ∷ [])) ≡ Some os → Each (Plain n) os
      by true b e =
          let both = and_parts (s.number p.at) (is_number_by s.number p.term) b in
          let a = wider p.at both.0 in
          let c = number-wider p.term both.1 in
          let f = bind-some (left_below p) (λ a. left_above p >>= (λ b. Some (con.Row a ∷ con.Row b ∷ []))) os (sym e) in
          let g = bind-some (left_above p) (λ b. Some (con.Row f.0 ∷ con.Row b ∷ [])) os f.2 in
          let same : con.Row f.0 ∷ con.Row g.0 ∷ [] ≡ os = cc in
          subst (λ (ds : List Con). Each (Plain n) ds) same (either p.turned f.0 a c f.1, (other p.turned g.0 a c g.1, tt))
      by false b e = let same : differ (left_side p) (right_side p) ∷ [] ≡ os = cc in subst (λ (ds : List Con). Each (Plain n) ds) same (tt, tt)

  parts-plain : (ps : List Part) (os : List Con) → parts_options s.number ps ≡ Some os → Each (Plain n) os
  parts-plain [] os e = let same : [] ≡ os = cc in subst (λ (ds : List Con). Each (Plain n) ds) same tt
  parts-plain (p ∷ ps) os e =
      let f = bind-some (part_options s.number p) (λ os. parts_options s.number ps >>= (λ rest. Some (os ++ rest))) os (sym e) in
      let g = bind-some (parts_options s.number ps) (λ rest. Some (f.0 ++ rest)) os f.2 in
      let same : f.0 ++ g.0 ≡ os = cc in
      subst (λ (ds : List Con). Each (Plain n) ds) same (Each-append (Plain n) f.0 g.0 (part-plain p f.0 (sym f.1)) (parts-plain ps g.0 (sym g.1)))

  row-plain : (r : Linear) (o : Op) → Has n r → Each (Plain n) (row_options s.keep o r)
  row-plain r op.Eq h = (has-speaks n r h, tt)
  row-plain r op.Lt h = (has-speaks n r h, tt)
  row-plain r op.Le h = (has-speaks n r h, tt)
  row-plain r op.Ne h = by (row_has (is_dropped s.keep) r)
    where
      by : (b : Bool) → Each (Plain n) (if b then con.Row (below r) ∷ con.Row (above r) ∷ [] else con.Row r ∷ [])
      by true = (has-speaks n (below r) h, (above-speaks n r h, tt))
      by false = (has-speaks n r h, tt)

  single-plain : (c : Con) (os : List Con) → Given n c → ◌≡◌ {A = Option (List Con)} (Some (c ∷ [])) (Some os) → Each (Plain n) os
  single-plain c os h e = let same : c ∷ [] ≡ os = cc in subst (λ (ds : List Con). Each (Plain n) ds) same (given-plain n c h, tt)

  options-plain : (c : Con) (os : List Con) → options s c ≡ Some os → Given n c → Each (Plain n) os
  options-plain (con.Row r) os e h = let same : row_options s.keep r.op r ≡ os = cc in subst (λ (ds : List Con). Each (Plain n) ds) same (row-plain r r.op h)
  options-plain (con.Eq t u) os e h = single-plain (con.Eq t u) os h e
  options-plain (con.NotShape x f a) os e h = single-plain (con.NotShape x f a) os h e
  options-plain (con.Num t) os e h = single-plain (con.Num t) os h e
  options-plain (con.NotNum t) os e h = single-plain (con.NotNum t) os h e
  options-plain (con.Neq t u) os e h = by (parts_in s t u) e
    where
      of : (ps : List Part) (b : Bool) → (if b then parts_options s.number ps else Some (con.Neq t u ∷ [])) ≡ Some os → Each (Plain n) os
      of ps true e = parts-plain ps os e
      of ps false e = single-plain (con.Neq t u) os h e

      by : (o : Option (List Part)) → options_by s (con.Neq t u) o ≡ Some os → Each (Plain n) os
      by None e = single-plain (con.Neq t u) os h e
      by (Some ps) e = of ps (speak_of_dropped s ps) e

  choice-plain : (cs list : List Con) (x : Source s cs list) → ((c : Con) → Contains cs c → Given n c) → Each (Plain n) x.choice
  choice-plain cs list x given = Each-map (λ d. (c : Con) × Contains cs c × IsOption s c d) (Plain n) (λ d k. Each-member (Plain n) k.2.0 d (options-plain k.0 k.2.0 k.2.1 (given k.0 k.1)) k.2.2) x.choice x.chooses.1

plain-rows : (n : ℕ → Bool) (ds : List Con) → Each (Plain n) ds → Each (Speaks n) (given_rows ds)
plain-rows n [] h = tt
plain-rows n (con.Row r ∷ ds) h = (h.0, plain-rows n ds h.1)
plain-rows n (con.Eq t u ∷ ds) h = absurd h.0
plain-rows n (con.Neq t u ∷ ds) h = plain-rows n ds h.1
plain-rows n (con.NotShape x f a ∷ ds) h = plain-rows n ds h.1
plain-rows n (con.Num t ∷ ds) h = plain-rows n ds h.1
plain-rows n (con.NotNum t ∷ ds) h = plain-rows n ds h.1

-- what is left of rows that speak of some variables alone speaks of these alone
left-speaks : (s : Reading) (cs list : List Con) (x : Source s cs list) (n : ℕ → Bool) → Each (Plain n) x.choice → (p q : RationalPoint) → Agree n p q → MeetsAll p x.rows → MeetsAll q x.rows
left-speaks s cs list x n plain p q a m = Each-map (λ (r : Linear). (row_has (is_dropped s.keep) r ≡ false) × Holds w r) (Holds q) (λ r k. holds-same w q r (points-same s.keep q w same r.coeffs k.0) k.1) x.rows (Each-both (λ (r : Linear). row_has (is_dropped s.keep) r ≡ false) (Holds w) x.rows x.left.lack (x.left.met w met))
  where
    rows : List Linear
    rows = inequalities (given_rows x.choice)

    u : (u : RationalPoint) × MeetsAll u rows × ((y : ℕ) → is_dropped s.keep y ≡ false → u y ≡ p y)
    u = x.left.extends p m

    w : RationalPoint
    w y = if n y then u.0 y else q y

    met : MeetsAll w rows
    met = Each-map (λ (r : Linear). Speaks n r × Holds u.0 r) (Holds w) (λ r k. k.0 u.0 w (λ y e i. if sym e i then u.0 y else q y) k.1) rows (Each-both (Speaks n) (Holds u.0) rows (inequalities-each (Speaks n) (given_rows x.choice) (plain-rows n x.choice plain)) u.1)

    same : (y : ℕ) → is_dropped s.keep y ≡ false → w y ≡ q y
    same y d = by (n y) refl
      where
        by : (b : Bool) → n y ≡ b → (if b then u.0 y else q y) ≡ q y
        by true e = u.2 y d ∙ a y e
        by false e = refl

-- ---- an alternative

abbrev is_no_row : Con → Bool
is_no_row (con.Row r) = false
is_no_row (con.Eq t u) = true
is_no_row (con.Neq t u) = true
is_no_row (con.NotShape x f n) = true
is_no_row (con.Num t) = true
is_no_row (con.NotNum t) = true

no-equation : (n : ℕ → Bool) (c : Con) → Plain n c → IsNoEquation c
no-equation n (con.Eq t u) h = h
no-equation n (con.Neq t u) h = tt
no-equation n (con.NotShape x f a) h = tt
no-equation n (con.Num t) h = tt
no-equation n (con.NotNum t) h = tt
no-equation n (con.Row r) h = tt

all-rows : (rs : List Linear) → Each IsNoEquation (map con.Row rs)
all-rows [] = tt
all-rows (r ∷ rs) = (tt, all-rows rs)

anything : (n : ℕ → Bool) → ((y : ℕ) → n y ≡ true) → (ks : List Coeff) → Each (λ k. n k.x ≡ true) ks
anything n h [] = tt
anything n h (k ∷ ks) = (h k.x, anything n h ks)

module _ (cs : List Con) (keep : List ℕ) (list : List Con) (plain : Each IsNoEquation cs) (x : Source (reading_of cs keep) cs list) where
  abbrev s : Reading
  s = reading_of cs keep

  abbrev asked : List Con
  asked = remaining keep x.choice x.rows

  abbrev p : RationalPoint
  p = x.asked.1.0

  given : (c : Con) → Contains cs c → Given (λ y. true) c
  given c i = by c (Each-member IsNoEquation cs c plain i)
    where
      by : (c : Con) → IsNoEquation c → Given (λ y. true) c
      by (con.Eq t u) h = h
      by (con.Neq t u) h = tt
      by (con.NotShape y f a) h = tt
      by (con.Num t) h = tt
      by (con.NotNum t) h = tt
      by (con.Row r) h = anything (λ y. true) (λ y. refl) r.coeffs

  unbound : resolver asked ≡ var
  unbound = resolved-var asked (Each-append IsNoEquation (filter (stays keep) x.choice) (map con.Row (filter (is_new x.choice) x.rows)) (Each-filter IsNoEquation (stays keep) x.choice (Each-map (Plain (λ y. true)) IsNoEquation (no-equation (λ y. true)) x.choice (choice-plain s (λ y. true) (λ y e. refl) cs list x given))) (all-rows (filter (is_new x.choice) x.rows)))

  as-asked : resolver cs ≡ resolver asked
  as-asked = resolved-var cs plain ∙ sym unbound

  read-asked : (t : Term) → under (resolver cs) (tm_of t) ≡ under (resolver asked) (tm_of t)
  read-asked t = ap (λ (r : Sub). under r (tm_of t)) as-asked

  parts-asked : (t u : Term) → parts_in s t u ≡ parts (under (resolver asked) (tm_of t)) (under (resolver asked) (tm_of u))
  parts-asked t u i = parts (read-asked t i) (read-asked u i)

  in-asked-list : (c : Con) → Contains cs c → options s c ≡ Some (c ∷ []) → stays keep c ≡ true → Contains asked c
  in-asked-list = only-asked s cs list x

  number-asked : (y : ℕ) → number_var cs y ≡ true → number_var asked y ≡ true
  number-asked y e =
      let c = number-con cs plain y e in
      let is : under (resolver asked) (tm_of c.0) ≡ var y = ap (under (resolver asked)) c.2 ∙ (λ i. unbound i y) in
      list_any-from (is_num_of (resolver asked) (var y)) asked (con.Num c.0) (in-asked-list (con.Num c.0) c.1 refl refl) ((tm_decided (under (resolver asked) (tm_of c.0)) (var y)).1 is)

  -- ---- the point of what is asked

  unread : (r : Sub) (q : RationalPoint) → r ≡ var → (ks : List Coeff) → Each (λ k. through r q k.x ≡ q k.x) ks
  unread r q e [] = tt
  unread r q e (k ∷ ks) = (ap (λ (r : Sub). through r q k.x) e, unread r q e ks)

  asked-row : (r : Linear) → Contains asked (con.Row r) → Holds p r
  asked-row r i = holds-same (through (resolver asked) p) p r (unread (resolver asked) p unbound r.coeffs) (Each-member (PointMeets asked p) asked (con.Row r) x.asked.1.1 i)

  left-met-there : MeetsAll p x.rows
  left-met-there = Each-map (λ (r : Linear). Contains asked (con.Row r)) (Holds p) asked-row x.rows (left-asked s cs list x)

  -- ---- where each variable of a row counts, the point gives a valuation of what is asked

  abbrev w : Valuation
  w = valuation asked p (list_bound (resolver asked) asked)

  valued-number : (y : ℕ) → number_var cs y ≡ true → p y ≡ point w.of y
  valued-number y e =
      let k = list_bound (resolver asked) asked in
      sym ((λ i. number_of (under (chosen asked p k) (unbound i y))) ∙ (λ i. number_of (if number-asked y e i then num (p y) else app (k + y) nil)))

  no-rows-typed : is_typed (filter is_no_row asked) ≡ true
  no-rows-typed = list_all-from (is_typed_con some) some (λ c i. by c ((Contains-from_filter is_no_row asked c i).1))
    where
      some : List Con
      some = filter is_no_row asked

      by : (c : Con) → is_no_row c ≡ true → is_typed_con some c ≡ true
      by (con.Row r) e = absurd (true≢false (sym e))
      by (con.Eq t u) e = refl
      by (con.Neq t u) e = refl
      by (con.NotShape y f n) e = refl
      by (con.Num t) e = refl
      by (con.NotNum t) e = refl

  no-rows-met : Meets w.of (filter is_no_row asked)
  no-rows-met = some-meets (filter is_no_row asked) asked p (Each-filter (Contains asked) is_no_row asked (Each-self asked)) no-rows-typed x.asked.0 x.asked.1.1

  other-met : (c : Con) → Contains asked c → is_no_row c ≡ true → holds w.of c ≡ true
  other-met c i e = list_all-member (holds w.of) (filter is_no_row asked) c no-rows-met (Contains-filter is_no_row asked c i e)

  asked-sat : Each (Plain (number_var cs)) x.choice → Sat asked
  asked-sat h = record {
    by = w;
    meets = list_all-append (holds w.of) (filter (stays keep) x.choice) (map con.Row (filter (is_new x.choice) x.rows)) ∙ and_from (is_met_by w.of (filter (stays keep) x.choice)) (is_met_by w.of (map con.Row (filter (is_new x.choice) x.rows))) front (held-rows w.of (filter (is_new x.choice) x.rows) (Each-filter (Holds (point w.of)) (is_new x.choice) x.rows (left-speaks s cs list x (number_var cs) h p (point w.of) valued-number left-met-there)));
  }
    where
      one : (c : Con) → Contains asked c → Plain (number_var cs) c → holds w.of c ≡ true
      one (con.Row r) i k = (bridge w.of r).1 (k p (point w.of) valued-number (asked-row r i))
      one (con.Eq t u) i k = other-met (con.Eq t u) i refl
      one (con.Neq t u) i k = other-met (con.Neq t u) i refl
      one (con.NotShape y f n) i k = other-met (con.NotShape y f n) i refl
      one (con.Num t) i k = other-met (con.Num t) i refl
      one (con.NotNum t) i k = other-met (con.NotNum t) i refl

      front : is_met_by w.of (filter (stays keep) x.choice) ≡ true
      front = list_all-from (holds w.of) (filter (stays keep) x.choice) (λ c i. one c (Contains-append_left (filter (stays keep) x.choice) (map con.Row (filter (is_new x.choice) x.rows)) c i) (Each-member (Plain (number_var cs)) x.choice c h ((Contains-from_filter (stays keep) x.choice c i).0)))

  counts-as : (y : ℕ) → counts cs y ≡ true → number_var cs y ≡ true
  counts-as y e = sym (ap (λ (r : Sub). is_number (r y) || list_any (is_num_of (resolver cs) (r y)) cs) (resolved-var cs plain)) ∙ e

  typed-sat : is_typed cs ≡ true → Sat list
  typed-sat e = subst Sat x.kept_is (sat-some (kept s asked) asked (Each-filter (Contains asked) (λ c. not (con_has s (is_dropped keep) c)) asked (Each-self asked)) (asked-sat (choice-plain s (number_var cs) (λ y k. k) cs list x (λ c i. by c (Each-member IsNoEquation cs c plain i) (list_all-member (is_typed_con cs) cs c e i)))))
    where
      by : (c : Con) → IsNoEquation c → is_typed_con cs c ≡ true → Given (number_var cs) c
      by (con.Eq t u) h k = h
      by (con.Neq t u) h k = tt
      by (con.NotShape y f a) h k = tt
      by (con.Num t) h k = tt
      by (con.NotNum t) h k = tt
      by (con.Row r) h k = Each-from_test (λ k. counts cs k.x) (λ k. number_var cs k.x ≡ true) (λ k. counts-as k.x) r.coeffs k

  -- ---- the point, extended, meets what the list says of numbers

  extension : (q : RationalPoint) × MeetsAll q (inequalities (given_rows x.choice)) × ((y : ℕ) → is_dropped keep y ≡ false → q y ≡ p y)
  extension = x.left.extends p left-met-there

  abbrev q : RationalPoint
  q = extension.0

  rows-met : (r : Linear) → Contains cs (con.Row r) → Holds q r
  rows-met = row-meets s cs list x q extension.1 (λ r i d. holds-same p q r (Each-map (λ k. q k.x ≡ p k.x) (λ k. p k.x ≡ q k.x) (λ k e. sym e) r.coeffs (points-same keep p q extension.2 r.coeffs d)) (asked-row r i))

  kept-number : (y : ℕ) → number_var cs y ≡ true → is_dropped_number s y ≡ false → q y ≡ p y
  kept-number y e d = extension.2 y (by (is_dropped keep y) (number_var cs y) d e)
    where
      by : (a b : Bool) → (a && b) ≡ false → b ≡ true → a ≡ false
      by true b e f = absurd (true≢false (sym f ∙ e))
      by false b e f = refl

  among-asked : (ps : List Part) → is_among_numbers cs ps ≡ true → is_among_numbers asked ps ≡ true
  among-asked [] e = refl
  among-asked (a ∷ ps) e =
      let both = and_parts (number_var cs a.at && is_number_term cs a.term) (is_among_numbers cs ps) e in
      let here = and_parts (number_var cs a.at) (is_number_term cs a.term) both.0 in
      and_from (number_var asked a.at && is_number_term asked a.term) (is_among_numbers asked ps) (and_from (number_var asked a.at) (is_number_term asked a.term) (number-asked a.at here.0) (term a.term here.1)) (among-asked ps both.1)
    where
      term : (t : Tm) → is_number_term cs t ≡ true → is_number_term asked t ≡ true
      term (var z) k = number-asked z k
      term (num r) k = refl
      term (app f ts) k = k

  equal-asked : (ps : List Part) → is_among_numbers cs ps ≡ true → speak_of_dropped s ps ≡ false → Each (λ (a : Part). q a.at ≡ read_as q a.at a.term) ps → Each (λ (a : Part). p a.at ≡ read_as p a.at a.term) ps
  equal-asked [] e d h = tt
  equal-asked (a ∷ ps) e d h =
      let both = and_parts (number_var cs a.at && is_number_term cs a.term) (is_among_numbers cs ps) e in
      let here = and_parts (number_var cs a.at) (is_number_term cs a.term) both.0 in
      let lacks = or_parts (part_has (is_dropped_number s) a) (speak_of_dropped s ps) d in
      let none = or_parts (is_dropped_number s a.at) (list_any (is_dropped_number s) (term_vars a.term)) lacks.0 in
      (sym (kept-number a.at here.0 none.0) ∙ h.0 ∙ term a.term here.1 none.1, equal-asked ps both.1 lacks.1 h.1)
    where
      term : (t : Tm) → is_number_term cs t ≡ true → list_any (is_dropped_number s) (term_vars t) ≡ false → read_as q a.at t ≡ read_as p a.at t
      term (var z) k d = kept-number z k (or_parts (is_dropped_number s z) false d).0
      term (num r) k d = refl
      term (app f ts) k d = absurd (true≢false (sym k))

  -- of parts between equal numbers no row stands in the choice
  among-open : (ps : List Part) (os : List Con) → is_among_numbers cs ps ≡ true → Each (λ (a : Part). q a.at ≡ read_as q a.at a.term) ps → parts_options (number_var cs) ps ≡ Some os → (o : Con) → Contains os o → Contains x.choice o → ⊥
  among-open [] os e h k o i j = let same : os ≡ [] = cc in Contains-none o (subst (λ (ds : List Con). Contains ds o) same i)
  among-open (a ∷ ps) os e h k o i j =
      let f = bind-some (part_options (number_var cs) a) (λ os. parts_options (number_var cs) ps >>= (λ rest. Some (os ++ rest))) os (sym k) in
      let g = bind-some (parts_options (number_var cs) ps) (λ rest. Some (f.0 ++ rest)) os f.2 in
      let same : os ≡ f.0 ++ g.0 = cc in
      by f.0 g.0 (sym f.1) (λ i. among-open ps g.0 both.1 h.1 (sym g.1) o i j) (Contains-append_cases f.0 g.0 o (subst (λ (ds : List Con). Contains ds o) same i))
    where
      both : ((number_var cs a.at && is_number_term cs a.term) ≡ true) × (is_among_numbers cs ps ≡ true)
      both = and_parts (number_var cs a.at && is_number_term cs a.term) (is_among_numbers cs ps) e

      term : (t : Tm) → is_number_term cs t ≡ is_number_by (number_var cs) t
      term (var z) = refl
      term (num r) = refl
      term (app f ts) = refl

      between : is_between (number_var cs) a ≡ true
      between = ap (λ b. number_var cs a.at && b) (sym (term a.term)) ∙ both.0

      rows : (first : List Con) → part_options (number_var cs) a ≡ Some first → part_rows a ≡ Some first
      rows first k = sym (ap (λ b. if b then part_rows a else Some (differ (left_side a) (right_side a) ∷ [])) between) ∙ k

      by : (first rest : List Con) → part_options (number_var cs) a ≡ Some first → (Contains rest o → ⊥) → Contains first o ⊎ Contains rest o → ⊥
      by first rest k later (inl i) = rows-open q x.choice (row-met q x.choice extension.1) a first h.0 (rows first k) o i j
      by first rest k later (inr i) = later i

  parts-differ : (t u : Term) → Contains cs (con.Neq t u) → PartsDiffer cs q (parts_in s t u)
  parts-differ t u i = by (parts_in s t u) refl
    where
      by : (o : Option (List Part)) → parts_in s t u ≡ o → PartsDiffer cs q o
      by None k = tt
      by (Some ps) k = λ among equal. test (speak_of_dropped s ps) refl among equal
        where
          test : (b : Bool) → speak_of_dropped s ps ≡ b → is_among_numbers cs ps ≡ true → Each (λ (a : Part). q a.at ≡ read_as q a.at a.term) ps → ⊥
          test true d among equal =
              let c = x.chooses.0 (con.Neq t u) i in
              among-open ps c.2.0 among equal (sym (options-are s t u ps true k d) ∙ c.2.1) c.0 c.2.2 c.1
          test false d among equal =
              let j = in-asked-list (con.Neq t u) i (options-are s t u ps false k d) refl in
              let m = subst (PartsDiffer asked p) (sym (parts-asked t u) ∙ k) (Each-member (PointMeets asked p) asked (con.Neq t u) x.asked.1.1 j) in
              m (among-asked ps among) (equal-asked ps among d equal)

  point-meets : (c : Con) → Contains cs c → PointMeets cs q c
  point-meets (con.Row r) i = holds-same q (through (resolver cs) q) r (Each-map (λ k. through (resolver cs) q k.x ≡ q k.x) (λ k. q k.x ≡ through (resolver cs) q k.x) (λ k e. sym e) r.coeffs (unread (resolver cs) q (resolved-var cs plain) r.coeffs)) (rows-met r i)
  point-meets (con.Neq t u) i = parts-differ t u i
  point-meets (con.Eq t u) i = tt
  point-meets (con.NotShape y f n) i = tt
  point-meets (con.Num t) i = tt
  point-meets (con.NotNum t) i = tt

  -- ---- the list does not fail by terms

  passes : (c : Con) → Contains cs c → options s c ≡ Some (c ∷ []) → stays keep c ≡ true → is_refuted asked c ≡ false
  passes c i e k = passing s cs list x c (in-asked-list c i e k)

  no-number : (z : Tm) → is_number_term asked z ≡ false → is_number_term cs z ≡ false
  no-number (num r) e = e
  no-number (app f ts) e = refl
  no-number (var y) e = by (number_var cs y) refl
    where
      by : (b : Bool) → number_var cs y ≡ b → b ≡ false
      by true k = absurd (true≢false (sym (number-asked y k) ∙ e))
      by false k = refl

  unrefuted : (c : Con) → Contains cs c → is_refuted cs c ≡ false
  unrefuted (con.Eq t u) i = refl
  unrefuted (con.Row r) i = refl
  unrefuted (con.Num t) i = ap is_compound (read-asked t) ∙ passes (con.Num t) i refl refl
  unrefuted (con.NotShape y f n) i = ap (λ (r : Sub). has_shape f n (r y)) as-asked ∙ passes (con.NotShape y f n) i refl refl
  unrefuted (con.NotNum t) i = ap (is_number_term cs) (read-asked t) ∙ no-number (under (resolver asked) (tm_of t)) (passes (con.NotNum t) i refl refl)
  unrefuted (con.Neq t u) i = by (parts_in s t u) refl
    where
      by : (o : Option (List Part)) → parts_in s t u ≡ o → is_identity o ≡ false
      by None k = refl
      by (Some (a ∷ ps)) k = refl
      by (Some []) k = ap is_identity (sym k ∙ parts-asked t u) ∙ passes (con.Neq t u) i (options-are s t u [] false k refl) refl

  unified : unifies cs ≡ true
  unified = (complete-list var cs (no-equations cs var plain)).0

  whole-sat : Sorted cs → Sat cs
  whole-sat sorted =
      let none : fails_by_terms cs ≡ false = ap (λ b. not b || list_any (is_refuted cs) cs) unified ∙ list_any-none_from (is_refuted cs) cs unrefuted in
      sorted-met cs q sorted none (Each-from (PointMeets cs q) cs point-meets)

  list-sat : Sorted cs → Sat list
  list-sat (apart e) = absurd (true≢false (sym unified ∙ e))
  list-sat (typed e) = typed-sat e
  list-sat (partly some within e none) = absurd (none (sat-some some cs within (whole-sat (partly some within e none))))

pub possible : (cs : List Con) (keep : List ℕ) (lists : List (List Con)) → RowsNormal cs → Each IsNoEquation cs → Sorted cs → projection cs keep ≡ Some (projected.Alternatives lists) → Each Sat lists
possible cs keep lists n plain sorted e = Each-map (Source (reading_of cs keep) cs) Sat (λ list x. list-sat cs keep list plain x sorted) lists (sources cs keep lists n e)

-- what the alternatives of an answer are
pub answer-possible : (cs : List Con) (keep : List ℕ) (answer : Projected) → RowsNormal cs → Some answer ≡ projection cs keep → IfAlternatives answer (λ lists. Each IsNoEquation cs → Sorted cs → Each Sat lists)
answer-possible cs keep (projected.Alternatives lists) n e = λ plain sorted. possible cs keep lists n plain sorted (sym e)
answer-possible cs keep projected.TooMany n e = tt
