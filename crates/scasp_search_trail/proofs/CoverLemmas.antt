-- Covers with their lines, of which most words see the covers alone.
use Rattle.std.specs.Prelude.{◌≡◌, ℕ, suc, Bool, true, false, not, ◌||◌, nat_le, if◌then◌else◌, None, Some, List, [], ◌∷◌, ◌++◌, filter, length, map, option_map, reverse, refl}
use Rattle.std.specs.List.{flat_map, list_any}
use Rattle.std.proofs.Common.{ap, sym, ◌∙◌}
use Rattle.std.proofs.lemmas.List.{length-reverse, reverse-reverse}
use Rattle.std.proofs.lemmas.List.Folds.{list_any-append}
use Rattle.scasp_forall.proofs.ListLemmas.{map_reverse}
use Rattle.scasp_forall.specs.Covers.{opening_in}
use Rattle.scasp_forall.specs.declared.scope.Opening.{Opening}
use Rattle.scasp_search_rules.specs.declared.states.covers.Cover.{Cover}
use Rattle.scasp_search_rules.specs.declared.states.covers.Remainder.{Remainder}
use Rattle.scasp_search_rules.specs.declared.states.lines.Line.{Line}
use Rattle.scasp_search_rules.specs.Successors.Regions.{regions}
use Rattle.scasp_search_rules.specs.Successors.Replacing.{has_universals}
use Rattle.scasp_search_rules.specs.Successors.Search.{waits}
use Rattle.scasp_search_state.specs.Words.{innermost}
use Rattle.scasp_search_state.specs.declared.choice.Begun.{Begun}
use Rattle.scasp_search_trail.specs.States.{first, lined, others}
use Rattle.scasp_syntax.specs.declared.con.Con.{Con}

pub lined_length : (cs : List Cover) (ps : List (List Line)) → length (lined cs ps) ≡ length cs
lined_length [] ps = refl
lined_length (c ∷ cs) ps = ap suc (lined_length cs (others ps))

pub covers_length : (cs : List Cover) (ps : List (List Line)) → length (lined (reverse cs) ps) ≡ length cs
covers_length cs ps = lined_length (reverse cs) ps ∙ length-reverse cs

-- ---- the innermost cover

abbrev begun_of : Opening → Begun
begun_of o = record { clause = o.clause; first = o.first; checks_head = o.checks_head }

pub innermost_is : (cs : List Cover) (ps : List (List Line)) (o : Opening) → Some o ≡ opening_in cs
    → Some (record { clause = o.clause; first = o.first; checks_head = o.checks_head }) ≡ innermost (lined cs ps)
innermost_is [] ps o e = absurd (cc e)
innermost_is (c ∷ cs) ps o e = ap (option_map begun_of) e

pub innermost_none : (cs : List Cover) (ps : List (List Line)) → None ≡ opening_in cs → None ≡ innermost (lined cs ps)
innermost_none [] ps e = refl
innermost_none (c ∷ cs) ps e = absurd (cc e)

pub still_waits : (cs : List Cover) (ps : List (List Line)) → waits (lined cs ps) ≡ waits cs
still_waits [] ps = refl
still_waits (c ∷ cs) ps = refl

pub same_universals : (cs : List Cover) (ps : List (List Line)) → has_universals (lined cs ps) ≡ has_universals cs
same_universals [] ps = refl
same_universals (c ∷ cs) ps = refl

-- ---- cases

pub same_cases : (cs : List Cover) (ps : List (List Line)) → map (λ (c : Cover). c.case) (lined cs ps) ≡ map (λ (c : Cover). c.case) cs
same_cases [] ps = refl
same_cases (c ∷ cs) ps = ap (λ (ks : List ℕ). c.case ∷ ks) (same_cases cs (others ps))

pub cases_around : (cs : List Cover) (ps : List (List Line))
    → map (λ (c : Cover). c.case) (filter (λ (c : Cover). not c.plain) (lined cs ps)) ≡ map (λ (c : Cover). c.case) (filter (λ (c : Cover). not c.plain) cs)
cases_around [] ps = refl
cases_around (c ∷ cs) ps = by (not c.plain) (filter (λ (d : Cover). not d.plain) (lined cs (others ps))) (filter (λ (d : Cover). not d.plain) cs) (cases_around cs (others ps))
  where
    by : (b : Bool) (xs ys : List Cover) → map (λ (d : Cover). d.case) xs ≡ map (λ (d : Cover). d.case) ys
        → map (λ (d : Cover). d.case) (if b then record c { before = first ps } ∷ xs else xs) ≡ map (λ (d : Cover). d.case) (if b then c ∷ ys else ys)
    by true xs ys e = ap (λ (ks : List ℕ). c.case ∷ ks) e
    by false xs ys e = e

-- ---- constraints

abbrev bare : Cover → Cover
bare c = record c { before = [] }

bare_lined : (cs : List Cover) (ps : List (List Line)) → map bare (lined cs ps) ≡ map bare cs
bare_lined [] ps = refl
bare_lined (c ∷ cs) ps = ap (λ (xs : List Cover). bare c ∷ xs) (bare_lined cs (others ps))

bare_regions : (cs : List Cover) → flat_map (λ (c : Cover). c.region) (map bare cs) ≡ flat_map (λ (c : Cover). c.region) cs
bare_regions [] = refl
bare_regions (c ∷ cs) = ap (λ (xs : List Con). c.region ++ xs) (bare_regions cs)

pub same_regions : (cs : List Cover) (ps : List (List Line)) → regions (lined (reverse cs) ps) ≡ flat_map (λ (c : Cover). c.region) cs
same_regions cs ps =
    let g : List Cover → List Con = λ xs. flat_map (λ (c : Cover). c.region) xs in
    sym (bare_regions (reverse (lined (reverse cs) ps)))
    ∙ ap g (map_reverse bare (lined (reverse cs) ps) ∙ ap reverse (bare_lined (reverse cs) ps) ∙ sym (map_reverse bare (reverse cs)) ∙ ap (map bare) (reverse-reverse cs))
    ∙ bare_regions cs

abbrev constraints : Cover → List Con
constraints c = c.region ++ flat_map (λ (r : Remainder). r.region) c.waiting

same_constraints : (cs : List Cover) (ps : List (List Line)) → flat_map constraints (lined cs ps) ≡ flat_map constraints cs
same_constraints [] ps = refl
same_constraints (c ∷ cs) ps = ap (λ (xs : List Con). constraints c ++ xs) (same_constraints cs (others ps))

pub any_constrained : (p : Con → Bool) (given : List Con) (cs : List Cover) (ps : List (List Line))
    → list_any p (given ++ flat_map (λ (c : Cover). c.region ++ flat_map (λ (r : Remainder). r.region) c.waiting) (lined cs ps))
    ≡ (list_any p given || list_any p (flat_map (λ (c : Cover). c.region ++ flat_map (λ (r : Remainder). r.region) c.waiting) cs))
any_constrained p given cs ps = list_any-append p given (flat_map constraints (lined cs ps)) ∙ ap (λ (xs : List Con). list_any p given || list_any p xs) (same_constraints cs ps)

regions_down : (d : ℕ) (cs : List Cover) (ps : List (List Line))
    → flat_map (λ (c : Cover). c.region) (filter (λ (c : Cover). nat_le c.depth d) (lined cs ps)) ≡ flat_map (λ (c : Cover). c.region) (filter (λ (c : Cover). nat_le c.depth d) cs)
regions_down d [] ps = refl
regions_down d (c ∷ cs) ps = by (nat_le c.depth d) (filter (λ (e : Cover). nat_le e.depth d) (lined cs (others ps))) (filter (λ (e : Cover). nat_le e.depth d) cs) (regions_down d cs (others ps))
  where
    by : (b : Bool) (xs ys : List Cover) → flat_map (λ (e : Cover). e.region) xs ≡ flat_map (λ (e : Cover). e.region) ys
        → flat_map (λ (e : Cover). e.region) (if b then record c { before = first ps } ∷ xs else xs) ≡ flat_map (λ (e : Cover). e.region) (if b then c ∷ ys else ys)
    by true xs ys e = ap (λ (zs : List Con). c.region ++ zs) e
    by false xs ys e = e

pub any_down : (p : Con → Bool) (given : List Con) (d : ℕ) (cs : List Cover) (ps : List (List Line))
    → list_any p (given ++ flat_map (λ (c : Cover). c.region) (filter (λ (c : Cover). nat_le c.depth d) (lined cs ps)))
    ≡ (list_any p given || list_any p (flat_map (λ (c : Cover). c.region) (filter (λ (c : Cover). nat_le c.depth d) cs)))
any_down p given d cs ps =
    list_any-append p given (flat_map (λ (c : Cover). c.region) (filter (λ (c : Cover). nat_le c.depth d) (lined cs ps)))
    ∙ ap (λ (xs : List Con). list_any p given || list_any p xs) (regions_down d cs ps)
