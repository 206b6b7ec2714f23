-- Domains that have given terms.
use Rattle.std.proofs.Common.{◌≡◌, ◌⊎◌, Bool, true, false, ◌&&◌, not, cond, List, [], ◌∷◌, length, map, ap, refl, sym, subst, inl, inr}
use Rattle.std.specs.List.{Contains, list_all, list_any}
use Rattle.std.proofs.lemmas.Bool.{and_parts, and_from, or_left, or_right}
use Rattle.scasp_syntax.specs.Same.{same_tm}
use Rattle.scasp_syntax.specs.Tm.{Tm}
use Rattle.scasp_syntax.specs.Values.{is_ground}
use Rattle.scasp_syntax.proofs.SameLemmas.{tm_decided}
use Rattle.scasp_model.specs.Grounding.{is_domain, choices}
use Rattle.scasp_list.proofs.MemberLemmas.{Contains-here, Contains-there, Contains-cases, Contains-map, Contains-flat_map, list_any-member}

-- the term is one of the domain
abbrev pub within : List Tm → Tm → Bool
within d t = list_any (same_tm t) d

pub within-contains : (d : List Tm) (t : Tm) → within d t ≡ true → Contains d t
within-contains d t h =
    let q = list_any-member (same_tm t) d h in
    subst (λ (u : Tm). Contains d u) (sym ((tm_decided t q.0).0 q.2)) q.1

-- members of the domain are among the ways of giving that many variables values
pub choices-has : (d ts : List Tm) → list_all (within d) ts ≡ true → Contains (choices d (length ts)) ts
choices-has d [] h = Contains-here [] []
choices-has d (t ∷ ts) h =
    let p = and_parts (within d t) (list_all (within d) ts) h in
    Contains-flat_map (λ u. map (λ us. u ∷ us) (choices d (length ts))) d t (t ∷ ts) (within-contains d t p.0)
    (Contains-map (λ us. t ∷ us) (choices d (length ts)) ts (choices-has d ts p.1))

-- the domain with those of the terms that it lacks
abbrev pub grown : List Tm → List Tm → List Tm
grown d [] = d
grown d (t ∷ ts) = cond (within d t) (grown d ts) (grown (t ∷ d) ts)

grown-both : (d : List Tm) (t : Tm) (ts : List Tm) (P : List Tm → Type 0)
    → (within d t ≡ true → P (grown d ts)) → (within d t ≡ false → P (grown (t ∷ d) ts)) → P (grown d (t ∷ ts))
grown-both d t ts P f g = by (within d t) refl
  where
    by : (b : Bool) → within d t ≡ b → P (grown d (t ∷ ts))
    by true e = rw e (f e)
    by false e = rw e (g e)

pub grown-domain : (d ts : List Tm) → is_domain d ≡ true → list_all is_ground ts ≡ true → is_domain (grown d ts) ≡ true
grown-domain d [] h g = h
grown-domain d (t ∷ ts) h g =
    let p = and_parts (is_ground t) (list_all is_ground ts) g in
    grown-both d t ts (λ z. is_domain z ≡ true) (λ e. grown-domain d ts h p.1)
    (λ e. grown-domain (t ∷ d) ts
    (and_from (is_ground t && not (within d t)) (is_domain d) (and_from (is_ground t) (not (within d t)) p.0 (ap not e)) h) p.1)

pub grown-keeps : (d ts : List Tm) (u : Tm) → within d u ≡ true → within (grown d ts) u ≡ true
grown-keeps d [] u h = h
grown-keeps d (t ∷ ts) u h =
    grown-both d t ts (λ z. within z u ≡ true) (λ e. grown-keeps d ts u h) (λ e. grown-keeps (t ∷ d) ts u (or_right (same_tm u t) (within d u) h))

pub grown-has : (d ts : List Tm) → list_all (within (grown d ts)) ts ≡ true
grown-has d [] = refl
grown-has d (t ∷ ts) =
    grown-both d t ts (λ z. list_all (within z) (t ∷ ts) ≡ true)
    (λ e. and_from (within (grown d ts) t) (list_all (within (grown d ts)) ts) (grown-keeps d ts t e) (grown-has d ts))
    (λ e. and_from (within (grown (t ∷ d) ts) t) (list_all (within (grown (t ∷ d) ts)) ts)
    (grown-keeps (t ∷ d) ts t (or_left (same_tm t t) (within d t) ((tm_decided t t).1 refl))) (grown-has (t ∷ d) ts))

-- it has no others
pub grown-from : (d ts : List Tm) (u : Tm) → Contains (grown d ts) u → Contains d u ⊎ Contains ts u
grown-from d [] u i = inl i
grown-from d (t ∷ ts) u h =
    grown-both d t ts (λ z. Contains z u → Contains d u ⊎ Contains (t ∷ ts) u)
    (λ e i. elim (grown-from d ts u i) [ inl j ↦ inl j | inr j ↦ inr (Contains-there t ts u j) ])
    (λ e i.
    elim (grown-from (t ∷ d) ts u i) [
      | inl j ↦
          elim (Contains-cases t d u j) [
            | inl same ↦ inr (subst (λ (x : Tm). Contains (t ∷ ts) x) same (Contains-here t ts))
            | inr k ↦ inl k
          ]
      | inr j ↦ inr (Contains-there t ts u j)
    ])
    h
