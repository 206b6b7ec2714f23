-- What all covers give, in the order of a state.
use Rattle.std.proofs.Common.{◌≡◌, ◌+◌, ◌<◌, ◌≤◌, ℕ, zero, suc, Bool, true, false, not, if◌then◌else◌, List, [], ◌∷◌, ◌++◌, filter, map, reverse, take, arith, refl, ap, sym, ◌∙◌}
use Rattle.std.proofs.lemmas.Bool.Decides.{nat_tests}
use Rattle.std.proofs.lemmas.List.Folds.{flat_map-map}
use Rattle.std.specs.List.{flat_map, list_any}
use Rattle.std.specs.Prelude.{nat_le}
use Rattle.scasp_forall.proofs.ListLemmas.{any_flat_reverse, filter_reverse, map_reverse}
use Rattle.scasp_forall.specs.Inside.Kept.{constraints_of, cover_of, covers_from, remainder_of}
use Rattle.scasp_forall.specs.Inside.Listed.{listed}
use Rattle.scasp_forall.specs.declared.scope.Scope.{Scope}
use Rattle.scasp_lines_places.specs.Places.Chains.{chained}
use Rattle.scasp_search_rules.specs.declared.states.covers.Cover.{Cover}
use Rattle.scasp_search_rules.specs.declared.states.covers.Remainder.{Remainder}
use Rattle.scasp_syntax.specs.declared.con.Con.{Con}

-- ---- cases

cases_from : (d : ℕ) (ss : List Scope) → map (λ (c : Cover). c.case) (covers_from d ss) ≡ map (λ (s : Scope). s.case) ss
cases_from d [] = refl
cases_from d (s ∷ ss) = ap (λ (ks : List ℕ). s.case ∷ ks) (cases_from (suc d) ss)

pub cases_turned : (ss : List Scope) → map (λ (s : Scope). s.case) (reverse ss) ≡ map (λ (c : Cover). c.case) (reverse (covers_from 1 ss))
cases_turned ss =
    map_reverse (λ (s : Scope). s.case) ss ∙ ap reverse (sym (cases_from 1 ss)) ∙ sym (map_reverse (λ (c : Cover). c.case) (covers_from 1 ss))

around_from : (d : ℕ) (ss : List Scope)
    → map (λ (c : Cover). c.case) (filter (λ (c : Cover). not c.plain) (covers_from d ss)) ≡ map (λ (s : Scope). s.case) (filter (λ (s : Scope). not s.opening.plain) ss)
around_from d [] = refl
around_from d (s ∷ ss) =
    by (not s.opening.plain) (filter (λ (c : Cover). not c.plain) (covers_from (suc d) ss)) (filter (λ (r : Scope). not r.opening.plain) ss) (around_from (suc d) ss)
  where
    by : (b : Bool) (cs : List Cover) (rs : List Scope) → map (λ (c : Cover). c.case) cs ≡ map (λ (r : Scope). r.case) rs
        → map (λ (c : Cover). c.case) (if b then cover_of d s ∷ cs else cs) ≡ map (λ (r : Scope). r.case) (if b then s ∷ rs else rs)
    by true cs rs e = ap (λ (ks : List ℕ). s.case ∷ ks) e
    by false cs rs e = e

pub around_turned : (ss : List Scope)
    → map (λ (s : Scope). s.case) (filter (λ (s : Scope). not s.opening.plain) (reverse ss)) ≡ map (λ (c : Cover). c.case) (filter (λ (c : Cover). not c.plain) (reverse (covers_from 1 ss)))
around_turned ss =
    let p : Scope → Bool = λ s. not s.opening.plain in
    let q : Cover → Bool = λ c. not c.plain in
    ap (map (λ (s : Scope). s.case)) (filter_reverse p ss) ∙ map_reverse (λ (s : Scope). s.case) (filter p ss) ∙ ap reverse (sym (around_from 1 ss))
    ∙ sym (ap (map (λ (c : Cover). c.case)) (filter_reverse q (covers_from 1 ss)) ∙ map_reverse (λ (c : Cover). c.case) (filter q (covers_from 1 ss)))

-- ---- constraints

regions_from : (d : ℕ) (ss : List Scope) → flat_map (λ (s : Scope). listed s.region) ss ≡ flat_map (λ (c : Cover). c.region) (covers_from d ss)
regions_from d [] = refl
regions_from d (s ∷ ss) = ap (λ (cs : List Con). listed s.region ++ cs) (regions_from (suc d) ss)

pub regions_are : (ss : List Scope) → flat_map (λ (s : Scope). listed s.region) ss ≡ flat_map (λ (c : Cover). c.region) (covers_from 1 ss)
regions_are ss = regions_from 1 ss

constraints_from : (d : ℕ) (ss : List Scope)
    → flat_map constraints_of ss ≡ flat_map (λ (c : Cover). c.region ++ flat_map (λ (r : Remainder). r.region) c.waiting) (covers_from d ss)
constraints_from d [] = refl
constraints_from d (s ∷ ss) =
    let e = sym (flat_map-map (λ (r : Remainder). r.region) remainder_of (chained s.waiting)) in
    λ i. (listed s.region ++ e i) ++ constraints_from (suc d) ss i

pub any_constrained : (p : Con → Bool) (ss : List Scope)
    → list_any p (flat_map constraints_of ss) ≡ list_any p (flat_map (λ (c : Cover). c.region ++ flat_map (λ (r : Remainder). r.region) c.waiting) (reverse (covers_from 1 ss)))
any_constrained p ss =
    ap (list_any p) (constraints_from 1 ss)
    ∙ sym (any_flat_reverse p (λ (c : Cover). c.region ++ flat_map (λ (r : Remainder). r.region) c.waiting) (covers_from 1 ss))

-- ---- the covers down to a depth

within : (d j : ℕ) → d ≤ j → nat_le d j ≡ true
within d j h = grind (arith, nat_tests)

beyond : (d j : ℕ) → j < d → nat_le d j ≡ false
beyond d j h = grind (arith, nat_tests)

none_down : (d j : ℕ) (ss : List Scope) → j < d → filter (λ (c : Cover). nat_le c.depth j) (covers_from d ss) ≡ []
none_down d j [] h = refl
none_down d j (s ∷ ss) h = λ i. if beyond d j h i then cover_of d s ∷ filter (λ (c : Cover). nat_le c.depth j) (covers_from (suc d) ss) else none_down (suc d) j ss (omega (arith, h)) i

down_from : (d j n : ℕ) (ss : List Scope) → n + d ≡ suc j → filter (λ (c : Cover). nat_le c.depth j) (covers_from d ss) ≡ covers_from d (take n ss)
down_from d j zero [] q = refl
down_from d j (suc n) [] q = refl
down_from d j zero (s ∷ ss) q = none_down d j (s ∷ ss) (omega (arith, q))
down_from d j (suc n) (s ∷ ss) q = λ i.
    if within d j (omega (arith, q)) i then cover_of d s ∷ down_from (suc d) j n ss (omega (arith, q)) i
    else filter (λ (c : Cover). nat_le c.depth j) (covers_from (suc d) ss)

pub any_down_to : (p : Con → Bool) (j : ℕ) (ss : List Scope)
    → list_any p (flat_map (λ (s : Scope). listed s.region) (take j ss))
    ≡ list_any p (flat_map (λ (c : Cover). c.region) (filter (λ (c : Cover). nat_le c.depth j) (reverse (covers_from 1 ss))))
any_down_to p j ss =
    let q : Cover → Bool = λ c. nat_le c.depth j in
    let g : Cover → List Con = λ c. c.region in
    ap (list_any p) (regions_from 1 (take j ss)) ∙ ap (λ cs. list_any p (flat_map g cs)) (sym (down_from 1 j j ss (omega arith)))
    ∙ sym (ap (λ cs. list_any p (flat_map g cs)) (filter_reverse q (covers_from 1 ss)) ∙ any_flat_reverse p g (filter q (covers_from 1 ss)))
