-- A valuation that meets a list meets one of its choices, and what is kept of that.
use Rattle.std.proofs.Common.{◌≡◌, ◌⊎◌, inl, inr, ℕ, Bool, true, false, ◌&&◌, Some, None, Option, List, [], ◌∷◌, ◌++◌, refl, sym, ap, ◌∙◌}
use Rattle.std.specs.Prelude.{if◌then◌else◌, ◌||◌, map}
use Rattle.std.specs.List.{list_all, list_any}
use Rattle.std.proofs.lemmas.Bool.{and_from, and_parts, or_cases, true≢false}
use Rattle.std.proofs.lemmas.List.Folds.{list_all-append, list_any-append}
use Rattle.scasp_num.specs.declared.linear.Op.{Op}
use Rattle.scasp_num.specs.declared.linear.Op.TheVariants as op
use Rattle.scasp_num.specs.Arithmetic.{◌>>=◌}
use Rattle.scasp_num.specs.Linear.{Linear}
use Rattle.scasp_num.specs.Values.{Holds}
use Rattle.scasp_num.proofs.Exact.{bind-some}
use Rattle.scasp_list.specs.Each.{Each}
use Rattle.scasp_rows.specs.Points.{RationalPoint}
use Rattle.scasp_syntax.specs.Constraints.{holds}
use Rattle.scasp_syntax.specs.RowTruth.{point}
use Rattle.scasp_syntax.specs.Same.{same_tm}
use Rattle.scasp_syntax.specs.Tm.{Tm, var, num, app}
use Rattle.scasp_syntax.specs.Values.{Sub, under}
use Rattle.scasp_syntax.specs.View.{tm_of}
use Rattle.scasp_syntax.specs.declared.con.Con.{Con}
use Rattle.scasp_syntax.specs.declared.con.Con.TheVariants as con
use Rattle.scasp_syntax.proofs.SameLemmas.{tm_decided}
use Rattle.scasp_syntax.proofs.ValueLemmas.{differ_decided}
use Rattle.scasp_unify.specs.Parts.{Part, left_side, right_side}
use Rattle.scasp_unify.specs.Points.{read_as}
use Rattle.scasp_unify.specs.SimpleForm.{differ, term_with}
use Rattle.scasp_unify.specs.Unification.{Absorbs}
use Rattle.scasp_unify.proofs.PointLemmas.{bridge}
use Rattle.scasp_unify.proofs.SimpleLemmas.{viewed}
use Rattle.scasp_unify.proofs.UnificationLemmas.{Fits, Says, parts-say, resolved-twice}
use Rattle.scasp_hint.specs.ExactRows.{difference}
use Rattle.scasp_hint.specs.Sides.{above, below, less, more}
use Rattle.scasp_hint.specs.Verdicts.{left_above, left_below}
use Rattle.scasp_hint.proofs.ExactLemmas.{difference-holds}
use Rattle.scasp_hint.proofs.SatisfyingLemmas.{on-a-side}
use Rattle.scasp_hint.proofs.SidesLemmas.{less-holds, more-holds}
use Rattle.scasp_project.specs.Choices.{chosen, crossed, options, options_by, part_options, part_rows, parts_options, row_options, speak_of_dropped}
use Rattle.scasp_project.specs.Dropped.{Reading, is_between, is_dropped, is_number_by, parts_in, row_has}

or-true : (b : Bool) → (b || true) ≡ true
or-true true = refl
or-true false = refl

pub any-left : {A : Type 0} (p : A → Bool) (xs ys : List A) → list_any p xs ≡ true → list_any p (xs ++ ys) ≡ true
any-left p xs ys e = list_any-append p xs ys ∙ ap (λ b. b || list_any p ys) e

pub any-right : {A : Type 0} (p : A → Bool) (xs ys : List A) → list_any p ys ≡ true → list_any p (xs ++ ys) ≡ true
any-right p xs ys e = list_any-append p xs ys ∙ ap (λ b. list_any p xs || b) e ∙ or-true (list_any p xs)

-- ---- one part

difference-op : (x : ℕ) (t : Tm) → (difference x t op.Ne).op ≡ op.Ne
difference-op x (var y) = refl
difference-op x (num q) = refl
difference-op x (app f ts) = refl

difference-met : (v : RationalPoint) (x : ℕ) (t : Tm) → (v x ≡ read_as v x t → ⊥) → Holds v (difference x t op.Ne)
difference-met v x (var y) n = λ h. n ((difference-holds v x (var y)).0 h)
difference-met v x (num q) n = λ h. n ((difference-holds v x (num q)).0 h)
difference-met v x (app f ts) n = absurd (n refl)

-- a point at which the sides differ meets one of the rows
pub part-sides : (v : RationalPoint) (p : Part) (a b : Linear) → Some a ≡ left_below p → Some b ≡ left_above p → (v p.at ≡ read_as v p.at p.term → ⊥) → Holds v a ⊎ Holds v b
part-sides v p a b e f n = by p.turned e f (on-a-side v (difference p.at p.term op.Ne) (difference-op p.at p.term) (difference-met v p.at p.term n))
  where
    r : Linear
    r = difference p.at p.term op.Ne

    by : (t : Bool) → Some a ≡ (if t then more p.at p.term else less p.at p.term) → Some b ≡ (if t then less p.at p.term else more p.at p.term) → Holds v (below r) ⊎ Holds v (above r) → Holds v a ⊎ Holds v b
    by true e f (inl h) = inr ((less-holds p.at p.term b f v).1 h)
    by true e f (inr h) = inl ((more-holds p.at p.term a e v).1 h)
    by false e f (inl h) = inl ((less-holds p.at p.term a e v).1 h)
    by false e f (inr h) = inr ((more-holds p.at p.term b f v).1 h)

-- the substitution gives a number to what counts as one
abbrev pub Counts : Sub → (ℕ → Bool) → Type 0
Counts w number = (y : ℕ) → number y ≡ true → w y ≡ num (point w y)

-- equal numbers at the point are equal values
pub read-value : (w : Sub) (number : ℕ → Bool) → Counts w number → (p : Part) → is_between number p ≡ true → point w p.at ≡ read_as (point w) p.at p.term → w p.at ≡ under w p.term
read-value w number c p e same = by p.term (and_parts (number p.at) (is_number_by number p.term) e).0 (and_parts (number p.at) (is_number_by number p.term) e).1 same
  where
    by : (t : Tm) → number p.at ≡ true → is_number_by number t ≡ true → point w p.at ≡ read_as (point w) p.at t → w p.at ≡ under w t
    by (var y) a b same = c p.at a ∙ ap num same ∙ sym (c y b)
    by (num q) a b same = c p.at a ∙ ap num same
    by (app f ts) a b same = absurd (true≢false (sym b))

row-held : (w : Sub) (r : Linear) → Holds (point w) r → holds w (con.Row r) ≡ true
row-held w r h = (bridge w r).1 h

differ-held : (w : Sub) (p : Part) → (w p.at ≡ under w p.term → ⊥) → holds w (differ (left_side p) (right_side p)) ≡ true
differ-held w p n = (differ_decided (under w (tm_of (term_with (left_side p)))) (under w (tm_of (term_with (right_side p))))).1 (λ same. apart p.turned (sym (ap (under w) (viewed (left_side p))) ∙ same ∙ ap (under w) (viewed (right_side p))))
  where
    apart : (t : Bool) → under w (if t then p.term else var p.at) ≡ under w (if t then var p.at else p.term) → ⊥
    apart true same = n (sym same)
    apart false same = n same

part-met : (w : Sub) (number : ℕ → Bool) → Counts w number → (p : Part) (os : List Con) → part_options number p ≡ Some os → (w p.at ≡ under w p.term → ⊥) → list_any (holds w) os ≡ true
part-met w number c p os e n = by (is_between number p) refl e
  where
    one : (a b : Linear) → Holds (point w) a ⊎ Holds (point w) b → list_any (holds w) (con.Row a ∷ con.Row b ∷ []) ≡ true
    one a b (inl h) = ap (λ t. t || (holds w (con.Row b) || false)) (row-held w a h)
    one a b (inr h) = ap (λ t. holds w (con.Row a) || (t || false)) (row-held w b h) ∙ or-true (holds w (con.Row a))

    by : (t : Bool) → is_between number p ≡ t → (if t then part_rows p else Some (differ (left_side p) (right_side p) ∷ [])) ≡ Some os → list_any (holds w) os ≡ true
    by true b e =
        let f = bind-some (left_below p) (λ a. left_above p >>= (λ b. Some (con.Row a ∷ con.Row b ∷ []))) os (sym e) in
        let g = bind-some (left_above p) (λ b. Some (con.Row f.0 ∷ con.Row b ∷ [])) os f.2 in
        let same : con.Row f.0 ∷ con.Row g.0 ∷ [] ≡ os = cc in
        ap (list_any (holds w)) (sym same) ∙ one f.0 g.0 (part-sides (point w) p f.0 g.0 f.1 g.1 (λ k. n (read-value w number c p b k)))
    by false b e =
        let same : differ (left_side p) (right_side p) ∷ [] ≡ os = cc in
        ap (list_any (holds w)) (sym same) ∙ ap (λ t. t || false) (differ-held w p n)

parts-met : (w : Sub) (number : ℕ → Bool) → Counts w number → (ps : List Part) (os : List Con) → parts_options number ps ≡ Some os → (Each (Fits w) ps → ⊥) → list_any (holds w) os ≡ true
parts-met w number c [] os e n = absurd (n tt)
parts-met w number c (p ∷ ps) os e n =
    let f = bind-some (part_options number p) (λ os. parts_options number ps >>= (λ rest. Some (os ++ rest))) os (sym e) in
    let g = bind-some (parts_options number ps) (λ rest. Some (f.0 ++ rest)) os f.2 in
    let same : f.0 ++ g.0 ≡ os = cc in
    ap (list_any (holds w)) (sym same) ∙ by f.0 g.0 (sym f.1) (same_tm (w p.at) (under w p.term)) refl (λ k. parts-met w number c ps g.0 (sym g.1) k)
  where
    by : (first rest : List Con) → part_options number p ≡ Some first → (t : Bool) → same_tm (w p.at) (under w p.term) ≡ t → ((Each (Fits w) ps → ⊥) → list_any (holds w) rest ≡ true) → list_any (holds w) (first ++ rest) ≡ true
    by first rest e true s later = any-right (holds w) first rest (later (λ k. n ((tm_decided (w p.at) (under w p.term)).0 s, k)))
    by first rest e false s later = any-left (holds w) first rest (part-met w number c p first e (λ k. true≢false (sym ((tm_decided (w p.at) (under w p.term)).1 k) ∙ s)))

-- ---- one constraint

row-met : (w : Sub) (keep : List ℕ) (r : Linear) → holds w (con.Row r) ≡ true → list_any (holds w) (row_options keep r.op r) ≡ true
row-met w keep r h = by r.op refl
  where
    alone : list_any (holds w) (con.Row r ∷ []) ≡ true
    alone = ap (λ t. t || false) h

    sides : Holds (point w) (below r) ⊎ Holds (point w) (above r) → list_any (holds w) (con.Row (below r) ∷ con.Row (above r) ∷ []) ≡ true
    sides (inl k) = ap (λ t. t || (holds w (con.Row (above r)) || false)) (row-held w (below r) k)
    sides (inr k) = ap (λ t. holds w (con.Row (below r)) || (t || false)) (row-held w (above r) k) ∙ or-true (holds w (con.Row (below r)))

    apart : r.op ≡ op.Ne → (t : Bool) → list_any (holds w) (if t then con.Row (below r) ∷ con.Row (above r) ∷ [] else con.Row r ∷ []) ≡ true
    apart e true = sides (on-a-side (point w) r e ((bridge w r).0 h))
    apart e false = alone

    by : (o : Op) → r.op ≡ o → list_any (holds w) (row_options keep o r) ≡ true
    by op.Eq e = alone
    by op.Lt e = alone
    by op.Le e = alone
    by op.Ne e = apart e (row_has (is_dropped keep) r)

single-met : (w : Sub) (c : Con) (os : List Con) → ◌≡◌ {A = Option (List Con)} (Some (c ∷ [])) (Some os) → holds w c ≡ true → list_any (holds w) os ≡ true
single-met w c os e h = let same : c ∷ [] ≡ os = cc in ap (list_any (holds w)) (sym same) ∙ ap (λ t. t || false) h

-- one of the options of a constraint holds where it does
pub options-met : (s : Reading) (w : Sub) → Absorbs w s.resolver → Counts w s.number → (c : Con) (os : List Con) → options s c ≡ Some os → holds w c ≡ true → list_any (holds w) os ≡ true
options-met s w a n (con.Eq t u) os e h = single-met w (con.Eq t u) os e h
options-met s w a n (con.NotShape x f k) os e h = single-met w (con.NotShape x f k) os e h
options-met s w a n (con.Num t) os e h = single-met w (con.Num t) os e h
options-met s w a n (con.NotNum t) os e h = single-met w (con.NotNum t) os e h
options-met s w a n (con.Row r) os e h = let same : row_options s.keep r.op r ≡ os = cc in ap (list_any (holds w)) (sym same) ∙ row-met w s.keep r h
options-met s w a n (con.Neq t u) os e h = by (parts_in s t u) (parts-say w (under s.resolver (tm_of t)) (under s.resolver (tm_of u))) e
  where
    apart : under w (under s.resolver (tm_of t)) ≡ under w (under s.resolver (tm_of u)) → ⊥
    apart k = (differ_decided (under w (tm_of t)) (under w (tm_of u))).0 h (sym (resolved-twice w s.resolver (tm_of t) a) ∙ k ∙ resolved-twice w s.resolver (tm_of u) a)

    chosen_parts : (ps : List Part) → (Each (Fits w) ps → ⊥) → (b : Bool) → (if b then parts_options s.number ps else Some (con.Neq t u ∷ [])) ≡ Some os → list_any (holds w) os ≡ true
    chosen_parts ps k true e = parts-met w s.number n ps os e k
    chosen_parts ps k false e = single-met w (con.Neq t u) os e h

    by : (o : Option (List Part)) → Says w o (under w (under s.resolver (tm_of t)) ≡ under w (under s.resolver (tm_of u))) → options_by s (con.Neq t u) o ≡ Some os → list_any (holds w) os ≡ true
    by None says e = single-met w (con.Neq t u) os e h
    by (Some ps) says e = chosen_parts ps (λ fits. apart (says.1 fits)) (speak_of_dropped s ps) e

-- ---- choices

abbrev pub is_met_by : Sub → List Con → Bool
is_met_by w = list_all (holds w)

extended-met : (w : Sub) (ds os : List Con) → is_met_by w ds ≡ true → list_any (holds w) os ≡ true → list_any (is_met_by w) (map (λ o. ds ++ o ∷ []) os) ≡ true
extended-met w ds [] m e = absurd (true≢false (sym e))
extended-met w ds (o ∷ os) m e = by (λ h. extended-met w ds os m h) (or_cases (holds w o) (list_any (holds w) os) e)
  where
    by : (list_any (holds w) os ≡ true → list_any (is_met_by w) (map (λ o. ds ++ o ∷ []) os) ≡ true) → (holds w o ≡ true) ⊎ (list_any (holds w) os ≡ true) → (is_met_by w (ds ++ o ∷ []) || list_any (is_met_by w) (map (λ o. ds ++ o ∷ []) os)) ≡ true
    by later (inl h) = ap (λ t. t || list_any (is_met_by w) (map (λ o. ds ++ o ∷ []) os)) (list_all-append (holds w) ds (o ∷ []) ∙ and_from (is_met_by w ds) (holds w o && true) m (and_from (holds w o) true h refl))
    by later (inr h) = ap (λ t. is_met_by w (ds ++ o ∷ []) || t) (later h) ∙ or-true (is_met_by w (ds ++ o ∷ []))

crossed-met : (w : Sub) (lists : List (List Con)) (os : List Con) → list_any (is_met_by w) lists ≡ true → list_any (holds w) os ≡ true → list_any (is_met_by w) (crossed lists os) ≡ true
crossed-met w [] os e h = absurd (true≢false (sym e))
crossed-met w (ds ∷ lists) os e h = by (λ m. crossed-met w lists os m h) (or_cases (is_met_by w ds) (list_any (is_met_by w) lists) e)
  where
    by : (list_any (is_met_by w) lists ≡ true → list_any (is_met_by w) (crossed lists os) ≡ true) → (is_met_by w ds ≡ true) ⊎ (list_any (is_met_by w) lists ≡ true) → list_any (is_met_by w) (map (λ o. ds ++ o ∷ []) os ++ crossed lists os) ≡ true
    by later (inl m) = any-left (is_met_by w) (map (λ o. ds ++ o ∷ []) os) (crossed lists os) (extended-met w ds os m h)
    by later (inr m) = any-right (is_met_by w) (map (λ o. ds ++ o ∷ []) os) (crossed lists os) (later m)

pub chosen-met : (s : Reading) (w : Sub) → Absorbs w s.resolver → Counts w s.number → (lists : List (List Con)) (ds : List Con) (out : List (List Con)) → chosen s lists ds ≡ Some out → list_any (is_met_by w) lists ≡ true → is_met_by w ds ≡ true → list_any (is_met_by w) out ≡ true
chosen-met s w a n lists [] out e m h = let same : lists ≡ out = cc in ap (list_any (is_met_by w)) (sym same) ∙ m
chosen-met s w a n lists (d ∷ ds) out e m h =
    let parts = and_parts (holds w d) (is_met_by w ds) h in
    let f = bind-some (options s d) (λ os. chosen s (crossed lists os) ds) out (sym e) in
    chosen-met s w a n (crossed lists f.0) ds out (sym f.2) (crossed-met w lists f.0 m (options-met s w a n d f.0 (sym f.1) parts.0)) parts.1
