-- The sample meets rows and disequations, and there is none exactly where no point meets them.
use Rattle.std.proofs.Common.{◌≡◌, ◌⊎◌, inl, inr, Some, None, Option, Result, Ok, Err, List, [], ◌∷◌, ◌++◌, refl, sym, ap, subst, ◌∙◌}
use Rattle.scasp_num.specs.declared.linear.RatPair.{RatPair}
use Rattle.scasp_num.specs.declared.hints.Step.{Step}
use Rattle.scasp_list.specs.Each.{Each}
use Rattle.scasp_list.proofs.EachLemmas.{Each-map}
use Rattle.scasp_num.specs.Linear.{Linear, IsNormal, Meets}
use Rattle.scasp_num.specs.Values.{Holds}
use Rattle.scasp_num.proofs.Valuations.{Holds-Meets}
use Rattle.scasp_rows.specs.declared.state.Halt.{Halt}
use Rattle.scasp_rows.specs.declared.state.Halt.TheVariants as halt
use Rattle.scasp_rows.specs.declared.state.State.{State}
use Rattle.scasp_rows.specs.Points.{RationalPoint, NoDisequation}
use Rattle.scasp_rows.specs.Elimination.{and_then, elimination}
use Rattle.scasp_rows.specs.Samples.{value_in, MeetsBoth, OnlyDisequations, point_of, alternatives, unless_unsat, first_met, first_of, if_some, with_all, found, sample_of}
use Rattle.scasp_rows.proofs.Pointing.{then-ok, point-values, point-unsat}
use Rattle.scasp_rows.proofs.Independence.{both-whole, each-holds}
use Rattle.scasp_rows.proofs.Greedy.{Good, step-some, good-more, unsat-values, with_all-some, with_all-none}

found-some : (o : Result (List RatPair) Halt) (point : List RatPair) → found o ≡ Ok (Some point) → o ≡ Ok point
found-some (Ok q) point e = let same : q ≡ point = cc in ap (λ (p : List RatPair). Ok p) same
found-some (Err (halt.Unsat steps)) point e = cc
found-some (Err halt.Overflow) point e = cc
found-some (Err halt.Memory) point e = cc

found-none : (o : Result (List RatPair) Halt) → found o ≡ Ok None → (steps : List Step) × (o ≡ Err (halt.Unsat steps))
found-none (Ok q) e = cc
found-none (Err (halt.Unsat steps)) e = (steps, refl)
found-none (Err halt.Overflow) e = cc
found-none (Err halt.Memory) e = cc

pub sample-met : (rows : List Linear) (differ : List (List Linear)) (point : List RatPair) → Each IsNormal rows → NoDisequation rows → Each OnlyDisequations differ → sample_of rows differ ≡ Ok (Some point) → MeetsBoth (value_in point) rows differ
unfolding sample_of
sample-met rows differ point h n o e =
    let k = then-ok (with_all rows differ) (λ o. if_some o (λ more. found (point_of more))) (Some point) e in
    by k.0 k.1 k.2
  where
    by : (c : Option (List Linear)) → with_all rows differ ≡ Ok c → if_some c (λ more. found (point_of more)) ≡ Ok (Some point) → MeetsBoth (value_in point) rows differ
    by None f e = cc
    by (Some more) f e =
        let w = with_all-some differ rows more f (record { normal = h; plain = n }) in
        let p = point-values more point w.0.normal w.0.plain (found-some (point_of more) point e) in
        let met = w.1 p.0 p.1 p.4 in
        (Each-map (Meets p.0 p.1) (Holds (value_in point)) (λ r g. (Holds-Meets (value_in point) p.0 p.1 r p.2 (p.3 r.coeffs)).1 g) rows met.0, each-holds (value_in point) p.0 p.1 differ p.2 p.3 o met.1)

-- the chosen rows have a solution, unless they are the given ones
with_all-last : (differ : List (List Linear)) (rows more : List Linear) → with_all rows differ ≡ Ok (Some more) → Good rows → (more ≡ rows) ⊎ ((s : State) × (elimination more ≡ Ok s))
with_all-last [] rows more e g = inl (let same : more ≡ rows = cc in same)
with_all-last (p ∷ ps) rows more e g =
    let k = then-ok (first_of rows (alternatives p)) (λ o. if_some o (λ more. with_all more ps)) (Some more) e in
    by k.0 k.1 k.2 (λ next f good. with_all-last ps next more f good)
  where
    last : (next : List Linear) (s : State) → elimination next ≡ Ok s → (more ≡ next) ⊎ ((s : State) × (elimination more ≡ Ok s)) → (s : State) × (elimination more ≡ Ok s)
    last next s e (inl f) = (s, ap elimination f ∙ e)
    last next s e (inr f) = f

    by : (o : Option (List Linear)) → first_of rows (alternatives p) ≡ Ok o → if_some o (λ more. with_all more ps) ≡ Ok (Some more) → ((next : List Linear) → with_all next ps ≡ Ok (Some more) → Good next → (more ≡ next) ⊎ ((s : State) × (elimination more ≡ Ok s))) → (more ≡ rows) ⊎ ((s : State) × (elimination more ≡ Ok s))
    by None f e rest = cc
    by (Some next) f e rest =
        let c = step-some rows p next f g in
        let good = subst Good (sym c.2) (good-more p rows c.0 g c.1) in
        inr (last next c.3 c.4 (rest next e good))

pub sample-none : (rows : List Linear) (differ : List (List Linear)) → Each IsNormal rows → NoDisequation rows → Each OnlyDisequations differ → sample_of rows differ ≡ Ok None → (v : RationalPoint) → MeetsBoth v rows differ → ⊥
unfolding sample_of
sample-none rows differ h n o e v met =
    let k = then-ok (with_all rows differ) (λ o. if_some o (λ more. found (point_of more))) None e in
    by k.0 k.1 k.2
  where
    good : Good rows
    good = record { normal = h; plain = n }

    by : (c : Option (List Linear)) → with_all rows differ ≡ Ok c → if_some c (λ more. found (point_of more)) ≡ Ok None → ⊥
    by None f e = let w = both-whole v rows differ o met in with_all-none differ rows f (record { normal = h; plain = n }) w.0 w.1 w.2 w.3 w.4
    by (Some more) f e =
        let u = found-none (point_of more) e in
        let unsat = point-unsat more u.0 u.1 in
        last more u.0 unsat (with_all-last differ rows more f (record { normal = h; plain = n }))
      where
        last : (more : List Linear) (steps : List Step) → elimination more ≡ Err (halt.Unsat steps) → (more ≡ rows) ⊎ ((s : State) × (elimination more ≡ Ok s)) → ⊥
        last more steps e (inr f) = let wrong : ◌≡◌ {A = Result State Halt} (Err (halt.Unsat steps)) (Ok f.0) = sym e ∙ f.1 in cc
        last more steps e (inl f) =
            let w = both-whole v rows differ o met in
            unsat-values rows steps n (ap elimination (sym f) ∙ e) w.0 w.1 w.2 w.3

-- ---- it does not end otherwise as unsatisfiable

first-unsat : (rows all : List Linear) (steps : List Step) → first_met rows all ≡ Err (halt.Unsat steps) → ⊥
first-unsat rows [] steps e = cc
first-unsat rows (a ∷ rest) steps e = by (elimination (rows ++ a ∷ [])) e (first-unsat rows rest steps)
  where
    by : (o : Result State Halt) → unless_unsat o (rows ++ a ∷ []) (first_met rows rest) ≡ Err (halt.Unsat steps) → (first_met rows rest ≡ Err (halt.Unsat steps) → ⊥) → ⊥
    by (Ok s) e k = cc
    by (Err (halt.Unsat ss)) e k = k e
    by (Err halt.Overflow) e k = cc
    by (Err halt.Memory) e k = cc

first_of-unsat : (rows : List Linear) (o : Option (List Linear)) (steps : List Step) → first_of rows o ≡ Err (halt.Unsat steps) → ⊥
first_of-unsat rows None steps e = cc
first_of-unsat rows (Some all) steps e = first-unsat rows all steps e

with_all-unsat : (differ : List (List Linear)) (rows : List Linear) (steps : List Step) → with_all rows differ ≡ Err (halt.Unsat steps) → ⊥
with_all-unsat [] rows steps e = cc
with_all-unsat (p ∷ ps) rows steps e = by (first_of rows (alternatives p)) refl e (λ next f. with_all-unsat ps next steps f)
  where
    by : (o : Result (Option (List Linear)) Halt) → first_of rows (alternatives p) ≡ o → and_then o (λ o. if_some o (λ more. with_all more ps)) ≡ Err (halt.Unsat steps) → ((next : List Linear) → with_all next ps ≡ Err (halt.Unsat steps) → ⊥) → ⊥
    by (Err (halt.Unsat ss)) f e k = first_of-unsat rows (alternatives p) ss f
    by (Err halt.Overflow) f e k = cc
    by (Err halt.Memory) f e k = cc
    by (Ok None) f e k = cc
    by (Ok (Some next)) f e k = k next e

found-unsat : (o : Result (List RatPair) Halt) (steps : List Step) → found o ≡ Err (halt.Unsat steps) → ⊥
found-unsat (Ok q) steps e = cc
found-unsat (Err (halt.Unsat ss)) steps e = cc
found-unsat (Err halt.Overflow) steps e = cc
found-unsat (Err halt.Memory) steps e = cc

pub sample-unsat : (rows : List Linear) (differ : List (List Linear)) (steps : List Step) → sample_of rows differ ≡ Err (halt.Unsat steps) → ⊥
unfolding sample_of
sample-unsat rows differ steps e = by (with_all rows differ) refl e
  where
    by : (o : Result (Option (List Linear)) Halt) → with_all rows differ ≡ o → and_then o (λ o. if_some o (λ more. found (point_of more))) ≡ Err (halt.Unsat steps) → ⊥
    by (Err (halt.Unsat ss)) f e = with_all-unsat differ rows ss f
    by (Err halt.Overflow) f e = cc
    by (Err halt.Memory) f e = cc
    by (Ok None) f e = cc
    by (Ok (Some more)) f e = found-unsat (point_of more) steps e
