-- The remarks tell the values of an answer.
use Rattle.std.proofs.Common.{◌≡◌, ◌∙◌, eq-eqb, ℕ, nat_eq, Bool, true, false, not, List, [], ◌∷◌, ◌++◌, append_assoc, map, Some, refl, ap, subst, sym}
use Rattle.std.specs.List.{list_all, list_any}
use Rattle.std.proofs.lemmas.Bool.{and_from, or_left, or_right}
use Rattle.std.proofs.lemmas.List.Folds.{list_any-append}
use Rattle.scasp_hint.specs.AskedRows.{RowsNormal}
use Rattle.scasp_fixed.specs.Fixed.{Telling, telling}
use Rattle.scasp_fixed.proofs.FixedLemmas.{absorbed-same, told-fills, told-same}
use Rattle.scasp_law_parts.proofs.AgreeLemmas.{split-all, under-within}
use Rattle.scasp_list.specs.Each.{Each}
use Rattle.scasp_project.specs.Meaning.{Extends, IsNoEquation, MeetsOne}
use Rattle.scasp_project.specs.Projection.{projection}
use Rattle.scasp_project.specs.declared.projecting.Projected.TheVariants as projected
use Rattle.scasp_project.proofs.BackLaw.{means}
use Rattle.scasp_syntax.specs.Constraints.{Meets}
use Rattle.scasp_syntax.specs.Tm.{Tm}
use Rattle.scasp_syntax.specs.Values.{Sub, Valuation, under}
use Rattle.scasp_syntax.specs.declared.con.Con.{Con}
use Rattle.scasp_syntax.proofs.ValueLemmas.{is_ground-under, under-under}
use Rattle.scasp_unify.specs.Solving.{sub_of}
use Rattle.scasp_unify.specs.Sorted.{Sorted}
use Rattle.scasp_unify.specs.Unification.{Absorbs, term_vars, then_by}
use Rattle.scasp_print_remarks.specs.Remarks.{Value, shown_variables}
use Rattle.scasp_print_remarks.specs.Telling.{AnswersAreTold, TellsAnswer, terms_under}

-- each variable of a list is among them
all-among : (before ks : List ℕ) → list_all (λ y. list_any (nat_eq y) (before ++ ks)) ks ≡ true
all-among before [] = refl
all-among before (k ∷ ks) =
    and_from (list_any (nat_eq k) (before ++ k ∷ ks)) (list_all (λ y. list_any (nat_eq y) (before ++ k ∷ ks)) ks)
    (list_any-append (nat_eq k) before (k ∷ ks) ∙ or_right (list_any (nat_eq k) before) (list_any (nat_eq k) (k ∷ ks)) (or_left (nat_eq k k) (list_any (nat_eq k) ks) (eq-eqb k k refl)))
    (subst (λ (all : List ℕ). list_all (λ y. list_any (nat_eq y) all) ks ≡ true) (append_assoc before (k ∷ []) ks) (all-among (before ++ k ∷ []) ks))

-- terms whose variables have the same values have them
terms-agree : (p : ℕ → Bool) (w u : Sub) → ((y : ℕ) → p y ≡ true → w y ≡ u y) → (vs : List Value) → list_all p (shown_variables vs) ≡ true → terms_under w vs ≡ terms_under u vs
terms-agree p w u a [] e = refl
terms-agree p w u a (x ∷ vs) e =
    let k = split-all p (term_vars x.term) (shown_variables vs) e in
    ap (λ t. t ∷ terms_under w vs) (under-within p w u x.term a k.0) ∙ ap (λ ts. under u x.term ∷ ts) (terms-agree p w u a vs k.1)

-- a substitution, and then a valuation
terms-read : (v s : Sub) (vs : List Value) → map (under v) (terms_under s vs) ≡ terms_under (then_by s v) vs
terms-read v s [] = refl
terms-read v s (x ∷ vs) = ap (λ t. t ∷ map (under v) (terms_under s vs)) (under-under v s x.term) ∙ ap (λ ts. under (then_by s v) x.term ∷ ts) (terms-read v s vs)

pub answers-told : AnswersAreTold
answers-told given sample vs lists n plain sorted normal e = record { forth = forth; back = back }
  where
    t : Telling
    t = telling lists sample

    s : Sub
    s = sub_of t.values

    keep : List ℕ
    keep = shown_variables vs

    forth : (v : Valuation) → Meets v.of given → MeetsOne v.of t.lists × (map (under v.of) (terms_under s vs) ≡ terms_under v.of vs)
    forth v m =
        let k = (told-same lists sample v normal).0 ((means given keep lists n plain sorted e v).0 (v, (λ x d. refl), m)) in
        (k.1, terms-read v.of s vs ∙ ap (λ (u : Sub). terms_under u vs) (absorbed-same v.of s k.0))

    back : (v : Valuation) → MeetsOne v.of t.lists → (w : Valuation) × Meets w.of given × (terms_under w.of vs ≡ map (under v.of) (terms_under s vs))
    back v m = by ((means given keep lists n plain sorted e filled).1 (told-fills lists sample v normal m))
      where
        filled : Valuation
        filled = record { of = then_by s v.of; ground = λ x. is_ground-under v (s x) }

        by : Extends keep filled given → (w : Valuation) × Meets w.of given × (terms_under w.of vs ≡ map (under v.of) (terms_under s vs))
        by k =
            (k.0, k.2, terms-agree (λ y. list_any (nat_eq y) keep) k.0.of (then_by s v.of) (λ y a. k.1 y (ap not a)) vs (all-among [] keep) ∙ sym (terms-read v.of s vs))
