-- The subterms of terms: each argument of one is one.
use Rattle.std.proofs.Common.{◌≡◌, ℕ, true, List, [], ◌∷◌, ◌++◌, ap, refl, subst, sym, inl, inr, ◌∙◌}
use Rattle.std.specs.List.{Contains, list_all, flat_map}
use Rattle.std.proofs.lemmas.Bool.{and_from, and_parts}
use Rattle.std.proofs.lemmas.List.Elements.{Contains-append_left, Contains-append_right, Contains-append_cases}
use Rattle.std.proofs.lemmas.List.Folds.{list_all-append}
use Rattle.scasp_list.proofs.MemberLemmas.{Contains-none, Contains-here, Contains-there, Contains-cases, Contains-flat_map, Contains-from_flat_map}
use Rattle.scasp_syntax.specs.Tm.{Tm, Tms, var, num, app, nil, cons, items, args_of}
use Rattle.scasp_syntax.specs.Values.{is_ground, are_ground}

-- the term, and all that stands in it
abbrev mutual
  pub subterms : Tm → List Tm
  subterms (var x) = var x ∷ []
  subterms (num q) = num q ∷ []
  subterms (app f ts) = app f ts ∷ subterms_of ts

  pub subterms_of : Tms → List Tm
  subterms_of nil = []
  subterms_of (cons t ts) = subterms t ++ subterms_of ts

abbrev pub all_subterms : List Tm → List Tm
all_subterms ts = flat_map subterms ts

itself : (t : Tm) → Contains (subterms t) t
itself (var x) = Contains-here (var x) []
itself (num q) = Contains-here (num q) []
itself (app f ts) = Contains-here (app f ts) (subterms_of ts)

item-in : (ts : Tms) (u : Tm) → Contains (items ts) u → Contains (subterms_of ts) u
item-in nil u i = i
item-in (cons t ts) u i =
    elim (Contains-cases t (items ts) u i) [
      | inl e ↦ Contains-append_left (subterms t) (subterms_of ts) u (subst (λ (x : Tm). Contains (subterms t) x) e (itself t))
      | inr j ↦ Contains-append_right (subterms t) (subterms_of ts) u (item-in ts u j)
    ]

no-argument : (t : Tm) (f : ℕ) (ts : Tms) (u : Tm) → args_of t ≡ nil → t ≡ app f ts → Contains (items ts) u → ⊥
no-argument t f ts u none e i = Contains-none u (subst (λ (us : Tms). Contains (items us) u) (sym (ap args_of e) ∙ none) i)

mutual
  argument-in : (t : Tm) (f : ℕ) (ts : Tms) (u : Tm) → Contains (subterms t) (app f ts) → Contains (items ts) u → Contains (subterms t) u
  argument-in (var x) f ts u i j =
      elim (Contains-cases (var x) [] (app f ts) i) [ inl e ↦ absurd (no-argument (var x) f ts u refl e j) | inr k ↦ absurd (Contains-none (app f ts) k) ]
  argument-in (num q) f ts u i j =
      elim (Contains-cases (num q) [] (app f ts) i) [ inl e ↦ absurd (no-argument (num q) f ts u refl e j) | inr k ↦ absurd (Contains-none (app f ts) k) ]
  argument-in (app g us) f ts u i j =
      elim (Contains-cases (app g us) (subterms_of us) (app f ts) i) [
        | inl e ↦ Contains-there (app g us) (subterms_of us) u (item-in us u (subst (λ (xs : Tms). Contains (items xs) u) (sym (ap args_of e)) j))
        | inr k ↦ Contains-there (app g us) (subterms_of us) u (argument-of us f ts u k j)
      ]

  argument-of : (us : Tms) (f : ℕ) (ts : Tms) (u : Tm) → Contains (subterms_of us) (app f ts) → Contains (items ts) u → Contains (subterms_of us) u
  argument-of nil f ts u i j = absurd (Contains-none (app f ts) i)
  argument-of (cons t us) f ts u i j =
      elim (Contains-append_cases (subterms t) (subterms_of us) (app f ts) i) [
        | inl k ↦ Contains-append_left (subterms t) (subterms_of us) u (argument-in t f ts u k j)
        | inr k ↦ Contains-append_right (subterms t) (subterms_of us) u (argument-of us f ts u k j)
      ]

-- each term is a subterm of the list
pub listed-subterm : (ts : List Tm) (t : Tm) → Contains ts t → Contains (all_subterms ts) t
listed-subterm ts t i = Contains-flat_map subterms ts t t i (itself t)

-- each argument of a subterm is one
pub argument-subterm : (bases : List Tm) (f : ℕ) (ts : Tms) (u : Tm) → Contains (all_subterms bases) (app f ts) → Contains (items ts) u → Contains (all_subterms bases) u
argument-subterm bases f ts u i j =
    let b = Contains-from_flat_map subterms bases (app f ts) i in
    Contains-flat_map subterms bases b.0 u b.1 (argument-in b.0 f ts u b.2 j)

mutual
  subterms-ground : (t : Tm) → is_ground t ≡ true → list_all is_ground (subterms t) ≡ true
  subterms-ground (var x) g = and_from (is_ground (var x)) true g refl
  subterms-ground (num q) g = refl
  subterms-ground (app f ts) g = and_from (are_ground ts) (list_all is_ground (subterms_of ts)) g (subterms_of-ground ts g)

  subterms_of-ground : (ts : Tms) → are_ground ts ≡ true → list_all is_ground (subterms_of ts) ≡ true
  subterms_of-ground nil g = refl
  subterms_of-ground (cons t ts) g =
      let p = and_parts (is_ground t) (are_ground ts) g in
      list_all-append is_ground (subterms t) (subterms_of ts)
      ∙ and_from (list_all is_ground (subterms t)) (list_all is_ground (subterms_of ts)) (subterms-ground t p.0) (subterms_of-ground ts p.1)

pub all_subterms-ground : (ts : List Tm) → list_all is_ground ts ≡ true → list_all is_ground (all_subterms ts) ≡ true
all_subterms-ground [] g = refl
all_subterms-ground (t ∷ ts) g =
    let p = and_parts (is_ground t) (list_all is_ground ts) g in
    list_all-append is_ground (subterms t) (all_subterms ts)
    ∙ and_from (list_all is_ground (subterms t)) (list_all is_ground (all_subterms ts)) (subterms-ground t p.0) (all_subterms-ground ts p.1)
