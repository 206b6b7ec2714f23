-- What is kept of a list: rows in normal form, and a valuation that meets the list meets one of the lists that are kept.
use Rattle.std.proofs.Common.{◌≡◌, ◌⊎◌, inl, inr, ℕ, Bool, true, false, not, Some, None, Option, Result, Ok, Err, List, [], ◌∷◌, ◌++◌, refl, sym, ap, subst, ◌∙◌, cond}
use Rattle.std.specs.Prelude.{if◌then◌else◌, ◌||◌, filter, map, option_to_list, ⊤}
use Rattle.std.specs.List.{list_all, list_any}
use Rattle.std.proofs.lemmas.Bool.{and_from, and_parts, or_cases, or_parts, true≢false}
use Rattle.std.proofs.lemmas.List.Folds.{list_all-append, list_any-append}
use Rattle.scasp_num.specs.declared.linear.Coeff.{Coeff}
use Rattle.scasp_num.specs.declared.linear.Op.{Op}
use Rattle.scasp_num.specs.declared.linear.Op.TheVariants as op
use Rattle.scasp_num.specs.Arithmetic.{◌>>=◌, negation_of}
use Rattle.scasp_num.specs.Linear.{Linear, IsNormal}
use Rattle.scasp_num.specs.Number.{zero_number}
use Rattle.scasp_num.specs.Values.{Holds}
use Rattle.scasp_num.proofs.Exact.{bind-some}
use Rattle.scasp_num.proofs.Kept.{normal_of-IsNormal}
use Rattle.scasp_num.proofs.NormalForms.{negation-IsNormal}
use Rattle.scasp_list.specs.Each.{Each}
use Rattle.scasp_list.proofs.EachLemmas.{Each-append, Each-filter}
use Rattle.scasp_rows.specs.declared.state.Halt.{Halt}
use Rattle.scasp_rows.specs.declared.state.Halt.TheVariants as halt
use Rattle.scasp_rows.specs.declared.state.State.{State}
use Rattle.scasp_rows.specs.Points.{MeetsAll, NoDisequation}
use Rattle.scasp_syntax.specs.Constraints.{has_shape, holds, is_number}
use Rattle.scasp_syntax.specs.RowTruth.{number_of, point}
use Rattle.scasp_syntax.specs.Same.{same_tm}
use Rattle.scasp_syntax.specs.Tm.{Tm, Tms, var, num, app, nil, cons}
use Rattle.scasp_syntax.specs.Values.{Sub, Valuation, under, all_under}
use Rattle.scasp_syntax.specs.View.{tm_of}
use Rattle.scasp_syntax.specs.declared.con.Con.{Con}
use Rattle.scasp_syntax.specs.declared.con.Con.TheVariants as con
use Rattle.scasp_syntax.proofs.ValueLemmas.{differ_decided}
use Rattle.scasp_unify.specs.Parts.{Part, left_side, right_side}
use Rattle.scasp_unify.specs.SimpleForm.{differ}
use Rattle.scasp_unify.specs.Unification.{Absorbs, term_vars, terms_vars}
use Rattle.scasp_unify.proofs.PointLemmas.{bridge, holds-same}
use Rattle.scasp_unify.proofs.UnificationLemmas.{Fits, Says, parts-say, resolved-twice}
use Rattle.scasp_hint.specs.AskedRows.{RowsNormal, given_rows, inequalities}
use Rattle.scasp_hint.specs.Finding.{Found, found, hint, nothing, unknown_list}
use Rattle.scasp_hint.specs.Sides.{above, below, less, more, one, minus_one}
use Rattle.scasp_hint.specs.Verdicts.{left_above, left_below}
use Rattle.scasp_hint.proofs.AskedLemmas.{inequalities-each, inequalities-plain}
use Rattle.scasp_hint.proofs.FoundLemmas.{found-hint}
use Rattle.scasp_hint.proofs.ShownLemmas.{shown-unsat}
use Rattle.scasp_project.specs.Choices.{chosen, crossed, options, options_by, part_options, part_rows, parts_options, row_options, speak_of_dropped}
use Rattle.scasp_project.specs.Dropped.{Reading, con_has, is_between, is_dropped, part_has, parts_have, parts_in, row_has}
use Rattle.scasp_rows.specs.LeftRows.{rows_left}
use Rattle.scasp_project.specs.LeftRows.{elimination_dropping}
use Rattle.scasp_project.specs.Meaning.{Agree}
use Rattle.scasp_project.specs.Projection.{all_kept, asked_kept, choice_kept, found_kept, is_new, kept, left_kept, remaining, stays}
use Rattle.scasp_project.proofs.ExtendLemmas.{left-extends}
use Rattle.scasp_project.proofs.ForwardLemmas.{any-left, any-right, is_met_by}
use Rattle.scasp_project.proofs.StandingLemmas.{LeftMet, left-met, rows_of}

-- ---- rows in normal form

abbrev pub ConNormal : Con → Type 0
ConNormal (con.Row r) = IsNormal r
ConNormal (con.Eq t u) = ⊤
ConNormal (con.Neq t u) = ⊤
ConNormal (con.NotShape x f n) = ⊤
ConNormal (con.Num t) = ⊤
ConNormal (con.NotNum t) = ⊤

abbrev pub AllNormal : List Con → Type 0
AllNormal = Each ConNormal

pub normal-rows : (ds : List Con) → AllNormal ds → RowsNormal ds
normal-rows [] h = tt
normal-rows (con.Row r ∷ ds) h = (h.0, normal-rows ds h.1)
normal-rows (con.Eq t u ∷ ds) h = normal-rows ds h.1
normal-rows (con.Neq t u ∷ ds) h = normal-rows ds h.1
normal-rows (con.NotShape x f n ∷ ds) h = normal-rows ds h.1
normal-rows (con.Num t ∷ ds) h = normal-rows ds h.1
normal-rows (con.NotNum t ∷ ds) h = normal-rows ds h.1

pub normal-cons : (ds : List Con) → RowsNormal ds → AllNormal ds
normal-cons [] h = tt
normal-cons (con.Row r ∷ ds) h = (h.0, normal-cons ds h.1)
normal-cons (con.Eq t u ∷ ds) h = (tt, normal-cons ds h)
normal-cons (con.Neq t u ∷ ds) h = (tt, normal-cons ds h)
normal-cons (con.NotShape x f n ∷ ds) h = (tt, normal-cons ds h)
normal-cons (con.Num t ∷ ds) h = (tt, normal-cons ds h)
normal-cons (con.NotNum t ∷ ds) h = (tt, normal-cons ds h)

below-normal : (r : Linear) → IsNormal r → IsNormal (below r)
below-normal r n = record { ascending = n.ascending; nonzero = n.nonzero; constant_range = n.constant_range; range = n.range; primitive = n.primitive; sign = refl }

above-normal : (r : Linear) → IsNormal r → IsNormal (above r)
above-normal r n = negation-IsNormal (record { coeffs = r.coeffs; constant = r.constant; op = op.Le }) (record { ascending = n.ascending; nonzero = n.nonzero; constant_range = n.constant_range; range = n.range; primitive = n.primitive; sign = refl })

less-normal : (x : ℕ) (t : Tm) (row : Linear) → Some row ≡ less x t → IsNormal row
less-normal x (var y) row e = normal_of-IsNormal (record { x = x; value = one } ∷ record { x = y; value = minus_one } ∷ []) zero_number op.Lt row e
less-normal x (num q) row e = normal_of-IsNormal (record { x = x; value = one } ∷ []) (negation_of q) op.Lt row e
less-normal x (app f ts) row e = cc

more-normal : (x : ℕ) (t : Tm) (row : Linear) → Some row ≡ more x t → IsNormal row
more-normal x (var y) row e = normal_of-IsNormal (record { x = x; value = minus_one } ∷ record { x = y; value = one } ∷ []) zero_number op.Lt row e
more-normal x (num q) row e = normal_of-IsNormal (record { x = x; value = minus_one } ∷ []) q op.Lt row e
more-normal x (app f ts) row e = cc

part-normal : (number : ℕ → Bool) (p : Part) (os : List Con) → part_options number p ≡ Some os → AllNormal os
part-normal number p os e = by (is_between number p) e
  where
    either : (t : Bool) (row : Linear) → Some row ≡ (if t then more p.at p.term else less p.at p.term) → IsNormal row
    either true row e = more-normal p.at p.term row e
    either false row e = less-normal p.at p.term row e

    other : (t : Bool) (row : Linear) → Some row ≡ (if t then less p.at p.term else more p.at p.term) → IsNormal row
    other true row e = less-normal p.at p.term row e
    other false row e = more-normal p.at p.term row e

    by : (t : Bool) → (if t then part_rows p else Some (differ (left_side p) (right_side p) ∷ [])) ≡ Some os → AllNormal os
    by true e =
        let f = bind-some (left_below p) (λ a. left_above p >>= (λ b. Some (con.Row a ∷ con.Row b ∷ []))) os (sym e) in
        let g = bind-some (left_above p) (λ b. Some (con.Row f.0 ∷ con.Row b ∷ [])) os f.2 in
        let same : con.Row f.0 ∷ con.Row g.0 ∷ [] ≡ os = cc in
        subst (λ (ds : List Con). AllNormal ds) same (either p.turned f.0 f.1, (other p.turned g.0 g.1, tt))
    by false e = let same : differ (left_side p) (right_side p) ∷ [] ≡ os = cc in subst (λ (ds : List Con). AllNormal ds) same (tt, tt)

parts-normal : (number : ℕ → Bool) (ps : List Part) (os : List Con) → parts_options number ps ≡ Some os → AllNormal os
parts-normal number [] os e = let same : [] ≡ os = cc in subst (λ (ds : List Con). AllNormal ds) same tt
parts-normal number (p ∷ ps) os e =
    let f = bind-some (part_options number p) (λ os. parts_options number ps >>= (λ rest. Some (os ++ rest))) os (sym e) in
    let g = bind-some (parts_options number ps) (λ rest. Some (f.0 ++ rest)) os f.2 in
    let same : f.0 ++ g.0 ≡ os = cc in
    subst (λ (ds : List Con). AllNormal ds) same (Each-append ConNormal f.0 g.0 (part-normal number p f.0 (sym f.1)) (parts-normal number ps g.0 (sym g.1)))

row-normal : (keep : List ℕ) (r : Linear) (o : Op) → IsNormal r → AllNormal (row_options keep o r)
row-normal keep r op.Eq n = (n, tt)
row-normal keep r op.Lt n = (n, tt)
row-normal keep r op.Le n = (n, tt)
row-normal keep r op.Ne n = by (row_has (is_dropped keep) r)
  where
    by : (t : Bool) → AllNormal (if t then con.Row (below r) ∷ con.Row (above r) ∷ [] else con.Row r ∷ [])
    by true = (below-normal r n, (above-normal r n, tt))
    by false = (n, tt)

single-normal : (c : Con) (os : List Con) → ConNormal c → ◌≡◌ {A = Option (List Con)} (Some (c ∷ [])) (Some os) → AllNormal os
single-normal c os n e = let same : c ∷ [] ≡ os = cc in subst (λ (ds : List Con). AllNormal ds) same (n, tt)

options-normal : (s : Reading) (c : Con) (os : List Con) → options s c ≡ Some os → ConNormal c → AllNormal os
options-normal s (con.Row r) os e n = let same : row_options s.keep r.op r ≡ os = cc in subst (λ (ds : List Con). AllNormal ds) same (row-normal s.keep r r.op n)
options-normal s (con.Eq t u) os e n = single-normal (con.Eq t u) os n e
options-normal s (con.NotShape x f k) os e n = single-normal (con.NotShape x f k) os n e
options-normal s (con.Num t) os e n = single-normal (con.Num t) os n e
options-normal s (con.NotNum t) os e n = single-normal (con.NotNum t) os n e
options-normal s (con.Neq t u) os e n = by (parts_in s t u) e
  where
    of : (ps : List Part) (b : Bool) → (if b then parts_options s.number ps else Some (con.Neq t u ∷ [])) ≡ Some os → AllNormal os
    of ps true e = parts-normal s.number ps os e
    of ps false e = single-normal (con.Neq t u) os n e

    by : (o : Option (List Part)) → options_by s (con.Neq t u) o ≡ Some os → AllNormal os
    by None e = single-normal (con.Neq t u) os n e
    by (Some ps) e = of ps (speak_of_dropped s ps) e

extended-normal : (ds os : List Con) → AllNormal ds → AllNormal os → Each AllNormal (map (λ o. ds ++ o ∷ []) os)
extended-normal ds [] h n = tt
extended-normal ds (o ∷ os) h n = (Each-append ConNormal ds (o ∷ []) h (n.0, tt), extended-normal ds os h n.1)

crossed-normal : (lists : List (List Con)) (os : List Con) → Each AllNormal lists → AllNormal os → Each AllNormal (crossed lists os)
crossed-normal [] os h n = tt
crossed-normal (ds ∷ lists) os h n = Each-append AllNormal (map (λ o. ds ++ o ∷ []) os) (crossed lists os) (extended-normal ds os h.0 n) (crossed-normal lists os h.1 n)

pub chosen-normal : (s : Reading) (lists : List (List Con)) (ds : List Con) (out : List (List Con)) → chosen s lists ds ≡ Some out → Each AllNormal lists → AllNormal ds → Each AllNormal out
chosen-normal s lists [] out e h n = let same : lists ≡ out = cc in subst (λ (ls : List (List Con)). Each AllNormal ls) same h
chosen-normal s lists (d ∷ ds) out e h n =
    let f = bind-some (options s d) (λ os. chosen s (crossed lists os) ds) out (sym e) in
    chosen-normal s (crossed lists f.0) ds out (sym f.2) (crossed-normal lists f.0 h (options-normal s d f.0 (sym f.1) n.0)) n.1

map-normal : (rs : List Linear) → Each IsNormal rs → AllNormal (map con.Row rs)
map-normal [] h = tt
map-normal (r ∷ rs) h = (h.0, map-normal rs h.1)

pub remaining-normal : (keep : List ℕ) (ds : List Con) (rows : List Linear) → AllNormal ds → Each IsNormal rows → RowsNormal (remaining keep ds rows)
remaining-normal keep ds rows h n = normal-rows (remaining keep ds rows) (Each-append ConNormal (filter (stays keep) ds) (map con.Row (filter (is_new ds) rows)) (Each-filter ConNormal (stays keep) ds h) (map-normal (filter (is_new ds) rows) (Each-filter IsNormal (is_new ds) rows n)))

-- ---- values of kept variables alone

module _ (keep : List ℕ) (v w : Sub) (agree : Agree keep v w) where
  mutual
    pub under-same : (t : Tm) → list_any (is_dropped keep) (term_vars t) ≡ false → under w t ≡ under v t
    under-same (var x) e = agree x (or_parts (is_dropped keep x) false e).0
    under-same (num q) e = refl
    under-same (app f ts) e = ap (app f) (all-same ts e)

    pub all-same : (ts : Tms) → list_any (is_dropped keep) (terms_vars ts) ≡ false → all_under w ts ≡ all_under v ts
    all-same nil e = refl
    all-same (cons t ts) e =
        let parts = or_parts (list_any (is_dropped keep) (term_vars t)) (list_any (is_dropped keep) (terms_vars ts)) (sym (list_any-append (is_dropped keep) (term_vars t) (terms_vars ts)) ∙ e) in
        let p = under-same t parts.0 in
        let q = all-same ts parts.1 in
        cc

  pub fits-same : (ps : List Part) → list_any (part_has (is_dropped keep)) ps ≡ false → Each (Fits v) ps → Each (Fits w) ps
  fits-same [] e h = tt
  fits-same (p ∷ ps) e h =
      let parts = or_parts (part_has (is_dropped keep) p) (list_any (part_has (is_dropped keep)) ps) e in
      let here = or_parts (is_dropped keep p.at) (list_any (is_dropped keep) (term_vars p.term)) parts.0 in
      (agree p.at here.0 ∙ h.0 ∙ sym (under-same p.term here.1), fits-same ps parts.1 h.1)

  pub points-same : (ks : List Coeff) → list_any (λ k. is_dropped keep k.x) ks ≡ false → Each (λ k. point w k.x ≡ point v k.x) ks
  points-same [] e = tt
  points-same (k ∷ ks) e =
      let parts = or_parts (is_dropped keep k.x) (list_any (λ k. is_dropped keep k.x) ks) e in
      (ap number_of (agree k.x parts.0), points-same ks parts.1)

  pub con-same : (s : Reading) → Absorbs w s.resolver → Absorbs v s.resolver → (c : Con) → con_has s (is_dropped keep) c ≡ false → holds w c ≡ true → holds v c ≡ true
  con-same s a b (con.Eq t u) e h =
      let parts = or_parts (list_any (is_dropped keep) (term_vars (tm_of t))) (list_any (is_dropped keep) (term_vars (tm_of u))) e in
      sym (λ i. same_tm (under-same (tm_of t) parts.0 i) (under-same (tm_of u) parts.1 i)) ∙ h
  con-same s a b (con.NotShape x f n) e h = subst (λ (t : Tm). not (has_shape f n t) ≡ true) (agree x e) h
  con-same s a b (con.Num t) e h = subst (λ (t : Tm). is_number t ≡ true) (under-same (tm_of t) e) h
  con-same s a b (con.NotNum t) e h = subst (λ (t : Tm). not (is_number t) ≡ true) (under-same (tm_of t) e) h
  con-same s a b (con.Row r) e h = (bridge v r).1 (holds-same (point w) (point v) r (points-same r.coeffs e) ((bridge w r).0 h))
  con-same s a b (con.Neq t u) e h = (differ_decided (under v (tm_of t)) (under v (tm_of u))).1 (λ k. by (parts_in s t u) (parts-say w (under s.resolver (tm_of t)) (under s.resolver (tm_of u))) (parts-say v (under s.resolver (tm_of t)) (under s.resolver (tm_of u))) e (resolved-twice v s.resolver (tm_of t) b ∙ k ∙ sym (resolved-twice v s.resolver (tm_of u) b)))
    where
      apart : under w (under s.resolver (tm_of t)) ≡ under w (under s.resolver (tm_of u)) → ⊥
      apart k = (differ_decided (under w (tm_of t)) (under w (tm_of u))).0 h (sym (resolved-twice w s.resolver (tm_of t) a) ∙ k ∙ resolved-twice w s.resolver (tm_of u) a)

      by : (o : Option (List Part)) → Says w o (under w (under s.resolver (tm_of t)) ≡ under w (under s.resolver (tm_of u))) → Says v o (under v (under s.resolver (tm_of t)) ≡ under v (under s.resolver (tm_of u))) → parts_have (is_dropped keep) o ≡ false → under v (under s.resolver (tm_of t)) ≡ under v (under s.resolver (tm_of u)) → ⊥
      by None says told e k = told k
      by (Some ps) says told e k = apart (says.1 (fits-same ps e (told.0 k)))

-- ---- one choice

all-filter : (p q : Con → Bool) (ds : List Con) → list_all p ds ≡ true → list_all p (filter q ds) ≡ true
all-filter p q [] h = refl
all-filter p q (d ∷ ds) h = by (q d) (all-filter p q ds (and_parts (p d) (list_all p ds) h).1)
  where
    by : (b : Bool) → list_all p (filter q ds) ≡ true → list_all p (cond b (d ∷ filter q ds) (filter q ds)) ≡ true
    by true e = and_from (p d) (list_all p (filter q ds)) (and_parts (p d) (list_all p ds) h).0 e
    by false e = e

rows-held : (w : Sub) (ds : List Con) → is_met_by w ds ≡ true → Each (Holds (point w)) (given_rows ds)
rows-held w [] h = tt
rows-held w (con.Row r ∷ ds) h = let parts = and_parts (holds w (con.Row r)) (is_met_by w ds) h in ((bridge w r).0 parts.0, rows-held w ds parts.1)
rows-held w (con.Eq t u ∷ ds) h = rows-held w ds (and_parts (holds w (con.Eq t u)) (is_met_by w ds) h).1
rows-held w (con.Neq t u ∷ ds) h = rows-held w ds (and_parts (holds w (con.Neq t u)) (is_met_by w ds) h).1
rows-held w (con.NotShape x f n ∷ ds) h = rows-held w ds (and_parts (holds w (con.NotShape x f n)) (is_met_by w ds) h).1
rows-held w (con.Num t ∷ ds) h = rows-held w ds (and_parts (holds w (con.Num t)) (is_met_by w ds) h).1
rows-held w (con.NotNum t ∷ ds) h = rows-held w ds (and_parts (holds w (con.NotNum t)) (is_met_by w ds) h).1

pub held-rows : (w : Sub) (rs : List Linear) → MeetsAll (point w) rs → is_met_by w (map con.Row rs) ≡ true
held-rows w [] h = refl
held-rows w (r ∷ rs) h = and_from (holds w (con.Row r)) (is_met_by w (map con.Row rs)) ((bridge w r).1 h.0) (held-rows w rs h.1)

pub remaining-met : (w : Sub) (keep : List ℕ) (ds : List Con) (rows : List Linear) → is_met_by w ds ≡ true → MeetsAll (point w) rows → is_met_by w (remaining keep ds rows) ≡ true
remaining-met w keep ds rows m h =
    list_all-append (holds w) (filter (stays keep) ds) (map con.Row (filter (is_new ds) rows))
    ∙ and_from (is_met_by w (filter (stays keep) ds)) (is_met_by w (map con.Row (filter (is_new ds) rows))) (all-filter (holds w) (stays keep) ds m) (held-rows w (filter (is_new ds) rows) (Each-filter (Holds (point w)) (is_new ds) rows h))

not-true : (b : Bool) → not b ≡ true → b ≡ false
not-true true e = absurd (true≢false (sym e))
not-true false e = refl

module _ (s : Reading) (v w : Valuation) (agree : Agree s.keep v.of w.of) (a : Absorbs w.of s.resolver) (b : Absorbs v.of s.resolver) where
  kept-met : (ds : List Con) → is_met_by w.of ds ≡ true → is_met_by v.of (kept s ds) ≡ true
  kept-met [] m = refl
  kept-met (d ∷ ds) m = by (not (con_has s (is_dropped s.keep) d)) refl (kept-met ds parts.1)
    where
      parts : (holds w.of d ≡ true) × (is_met_by w.of ds ≡ true)
      parts = and_parts (holds w.of d) (is_met_by w.of ds) m

      by : (t : Bool) → not (con_has s (is_dropped s.keep) d) ≡ t → is_met_by v.of (kept s ds) ≡ true → is_met_by v.of (cond t (d ∷ kept s ds) (kept s ds)) ≡ true
      by true e h = and_from (holds v.of d) (is_met_by v.of (kept s ds)) (con-same s.keep v.of w.of agree s a b d (not-true (con_has s (is_dropped s.keep) d) e) parts.0) h
      by false e h = h

  asked-met : (ds : List Con) (here : Option (List Con)) → RowsNormal ds → asked_kept s ds ≡ Some here → is_met_by w.of ds ≡ true → list_any (is_met_by v.of) (option_to_list here) ≡ true
  asked-met ds here n e m = by (found ds) refl e
    where
      by : (f : Found) → found ds ≡ f → found_kept s ds f ≡ Some here → list_any (is_met_by v.of) (option_to_list here) ≡ true
      by nothing i e = let same : Some (kept s ds) ≡ here = cc in ap (λ (o : Option (List Con)). list_any (is_met_by v.of) (option_to_list o)) (sym same) ∙ ap (λ t. t || false) (kept-met ds m)
      by (hint h) i e = absurd (shown-unsat ds h n (found-hint ds h n i) (record { by = w; meets = m }))
      by unknown_list i e = cc

  choice-met : (ds : List Con) (here : Option (List Con)) → AllNormal ds → choice_kept s ds ≡ Some here → is_met_by w.of ds ≡ true → list_any (is_met_by v.of) (option_to_list here) ≡ true
  choice-met ds here n e m = by (elimination_dropping s.keep rows) refl (left-met (point w.of) s.keep rows plain met) e
    where
      rows : List Linear
      rows = inequalities (given_rows ds)

      plain : NoDisequation rows
      plain = inequalities-plain (given_rows ds)

      met : MeetsAll (point w.of) rows
      met = inequalities-each (Holds (point w.of)) (given_rows ds) (rows-held w.of ds m)

      by : (o : Result State Halt) → elimination_dropping s.keep rows ≡ o → LeftMet (point w.of) o → left_kept s ds (rows_left o) ≡ Some here → list_any (is_met_by v.of) (option_to_list here) ≡ true
      by (Ok t) i h e =
          let left = left-extends s.keep rows t (inequalities-each IsNormal (given_rows ds) (normal-rows ds n)) plain i in
          asked-met (remaining s.keep ds (rows_of t.standing)) here (remaining-normal s.keep ds (rows_of t.standing) n left.normal) e (remaining-met w.of s.keep ds (rows_of t.standing) m h)
      by (Err (halt.Unsat steps)) i h e = absurd h
      by (Err halt.Overflow) i h e = cc
      by (Err halt.Memory) i h e = cc

  pub all-kept-met : (choices lists : List (List Con)) → Each AllNormal choices → all_kept s choices ≡ Some lists → list_any (is_met_by w.of) choices ≡ true → list_any (is_met_by v.of) lists ≡ true
  all-kept-met [] lists n e m = absurd (true≢false (sym m))
  all-kept-met (ds ∷ rest) lists n e m =
      let f = bind-some (choice_kept s ds) (λ here. all_kept s rest >>= (λ later. Some (option_to_list here ++ later))) lists (sym e) in
      let g = bind-some (all_kept s rest) (λ later. Some (option_to_list f.0 ++ later)) lists f.2 in
      let same : option_to_list f.0 ++ g.0 ≡ lists = cc in
      ap (list_any (is_met_by v.of)) (sym same) ∙ by f.0 g.0 (sym f.1) (λ h. all-kept-met rest g.0 n.1 (sym g.1) h) (or_cases (is_met_by w.of ds) (list_any (is_met_by w.of) rest) m)
    where
      by : (here : Option (List Con)) (later : List (List Con)) → choice_kept s ds ≡ Some here → (list_any (is_met_by w.of) rest ≡ true → list_any (is_met_by v.of) later ≡ true) → (is_met_by w.of ds ≡ true) ⊎ (list_any (is_met_by w.of) rest ≡ true) → list_any (is_met_by v.of) (option_to_list here ++ later) ≡ true
      by here later e h (inl k) = any-left (is_met_by v.of) (option_to_list here) later (choice-met ds here n.0 e k)
      by here later e h (inr k) = any-right (is_met_by v.of) (option_to_list here) later (h k)
