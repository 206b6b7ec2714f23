-- A constraint has one truth under substitutions that agree on its variables.
use Rattle.std.proofs.Common.{◌≡◌, ℕ, Bool, true, not, List, [], ◌∷◌, ◌++◌, refl, sym, ap, ◌∙◌}
use Rattle.std.specs.List.{list_all, flat_map}
use Rattle.std.proofs.lemmas.Bool.{and_from, and_parts}
use Rattle.std.proofs.lemmas.List.Folds.{list_all-append}
use Rattle.scasp_num.specs.declared.linear.Coeff.{Coeff}
use Rattle.scasp_list.specs.Each.{Each}
use Rattle.scasp_syntax.specs.Constraints.{holds, has_shape, is_number}
use Rattle.scasp_syntax.specs.RowTruth.{number_of, point}
use Rattle.scasp_syntax.specs.Same.{same_tm}
use Rattle.scasp_syntax.specs.Tm.{Tm, Tms, var, num, app, nil, cons}
use Rattle.scasp_syntax.specs.Values.{Sub, under, all_under}
use Rattle.scasp_syntax.specs.View.{tm_of}
use Rattle.scasp_syntax.specs.declared.con.Con.{Con}
use Rattle.scasp_syntax.specs.declared.con.Con.TheVariants as con
use Rattle.scasp_syntax.proofs.ValueLemmas.{under-under}
use Rattle.scasp_unify.specs.Unification.{term_vars, terms_vars, then_by}
use Rattle.scasp_unify.proofs.PointLemmas.{bridge, holds-same}
use Rattle.scasp_law_parts.specs.Parts.{lies_within}

pub split-all : {X : Type 0} (f : X → Bool) (xs ys : List X) → list_all f (xs ++ ys) ≡ true → (list_all f xs ≡ true) × (list_all f ys ≡ true)
split-all f xs ys e = and_parts (list_all f xs) (list_all f ys) (sym (list_all-append f xs ys) ∙ e)

pub join-all : {X : Type 0} (f : X → Bool) (xs ys : List X) → list_all f xs ≡ true → list_all f ys ≡ true → list_all f (xs ++ ys) ≡ true
join-all f xs ys a b = list_all-append f xs ys ∙ and_from (list_all f xs) (list_all f ys) a b

-- the two agree where the test passes
abbrev pub Agree : (ℕ → Bool) → Sub → Sub → Type 0
Agree p w v = (y : ℕ) → p y ≡ true → w y ≡ v y

mutual
  pub under-within : (p : ℕ → Bool) (w v : Sub) (t : Tm) → Agree p w v → list_all p (term_vars t) ≡ true → under w t ≡ under v t
  under-within p w v (var y) h e = h y (and_parts (p y) true e).0
  under-within p w v (num q) h e = refl
  under-within p w v (app f ts) h e = ap (app f) (all-under-within p w v ts h e)

  all-under-within : (p : ℕ → Bool) (w v : Sub) (ts : Tms) → Agree p w v → list_all p (terms_vars ts) ≡ true → all_under w ts ≡ all_under v ts
  all-under-within p w v nil h e = refl
  all-under-within p w v (cons t ts) h e =
      let a = split-all p (term_vars t) (terms_vars ts) e in
      let b = under-within p w v t h a.0 in
      let c = all-under-within p w v ts h a.1 in cc

-- the same of a term that s has read
read-within : (s : Sub) (p : ℕ → Bool) (w v : Sub) (t : Tm) → Agree p w v → list_all p (term_vars (under s t)) ≡ true → under (then_by s w) t ≡ under (then_by s v) t
read-within s p w v t h e = sym (under-under w s t) ∙ under-within p w v (under s t) h e ∙ under-under v s t

values-within : (s : Sub) (p : ℕ → Bool) (w v : Sub) (ks : List Coeff) → Agree p w v → list_all p (flat_map (λ k. term_vars (s k.x)) ks) ≡ true → Each (λ k. point (then_by s v) k.x ≡ point (then_by s w) k.x) ks
values-within s p w v [] h e = tt
values-within s p w v (j ∷ js) h e =
    let a = split-all p (term_vars (s j.x)) (flat_map (λ k. term_vars (s k.x)) js) e in
    (sym (ap number_of (under-within p w v (s j.x) h a.0)), values-within s p w v js h a.1)

pub holds-within : (s : Sub) (p : ℕ → Bool) (w v : Sub) (c : Con) → Agree p w v → lies_within s p c ≡ true → holds (then_by s v) c ≡ true → holds (then_by s w) c ≡ true
holds-within s p w v (con.Eq t u) h e f =
    let a = split-all p (term_vars (under s (tm_of t))) (term_vars (under s (tm_of u))) e in
    (λ i. same_tm (read-within s p w v (tm_of t) h a.0 i) (read-within s p w v (tm_of u) h a.1 i)) ∙ f
holds-within s p w v (con.Neq t u) h e f =
    let a = split-all p (term_vars (under s (tm_of t))) (term_vars (under s (tm_of u))) e in
    (λ i. not (same_tm (read-within s p w v (tm_of t) h a.0 i) (read-within s p w v (tm_of u) h a.1 i))) ∙ f
holds-within s p w v (con.NotShape x g n) h e f = ap (λ z. not (has_shape g n z)) (under-within p w v (s x) h e) ∙ f
holds-within s p w v (con.Num t) h e f = ap is_number (read-within s p w v (tm_of t) h e) ∙ f
holds-within s p w v (con.NotNum t) h e f = ap (λ z. not (is_number z)) (read-within s p w v (tm_of t) h e) ∙ f
holds-within s p w v (con.Row r) h e f = (bridge (then_by s w) r).1 (holds-same (point (then_by s v)) (point (then_by s w)) r (values-within s p w v r.coeffs h e) ((bridge (then_by s v) r).0 f))

pub meets-within : (s : Sub) (p : ℕ → Bool) (w v : Sub) (cs : List Con) → Agree p w v → list_all (lies_within s p) cs ≡ true → list_all (holds (then_by s v)) cs ≡ true → list_all (holds (then_by s w)) cs ≡ true
meets-within s p w v [] h e f = refl
meets-within s p w v (c ∷ cs) h e f =
    let a = and_parts (lies_within s p c) (list_all (lies_within s p) cs) e in
    let b = and_parts (holds (then_by s v) c) (list_all (holds (then_by s v)) cs) f in
    and_from (holds (then_by s w) c) (list_all (holds (then_by s w)) cs) (holds-within s p w v c h a.0 b.0) (meets-within s p w v cs h a.1 b.1)
