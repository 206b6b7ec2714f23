-- What is left of rows is their projection.
use Rattle.std.proofs.Common.{◌≡◌, ◌↔◌, ℕ, false, None, Some, Result, Ok, Err, List, [], ◌∷◌, refl, subst}
use Rattle.std.specs.List.{list_any}
use Rattle.std.proofs.lemmas.Bool.{or_parts}
use Rattle.scasp_num.specs.declared.linear.Coeff.{Coeff}
use Rattle.scasp_num.specs.Linear.{Linear, IsNormal}
use Rattle.scasp_num.specs.Values.{Holds}
use Rattle.scasp_list.specs.Each.{Each}
use Rattle.scasp_list.proofs.EachLemmas.{Each-both, Each-map}
use Rattle.scasp_rows.specs.declared.state.Halt.{Halt}
use Rattle.scasp_rows.specs.declared.state.Halt.TheVariants as halt
use Rattle.scasp_rows.specs.declared.state.State.{State}
use Rattle.scasp_rows.specs.Points.{MeetsAll, NoDisequation, RationalPoint}
use Rattle.scasp_unify.proofs.PointLemmas.{holds-same}
use Rattle.scasp_project.specs.Dropped.{is_dropped, row_has}
use Rattle.scasp_rows.specs.LeftRows.{rows_left}
use Rattle.scasp_project.specs.LeftRows.{elimination_dropping}
use Rattle.scasp_project.proofs.ExtendLemmas.{LeftOf, left-extends}
use Rattle.scasp_project.proofs.StandingLemmas.{LeftMet, left-met, rows_of}

ended-ok : (o : Result State Halt) (left : List Linear) → rows_left o ≡ Ok (Some left) → (t : State) × (o ≡ Ok t) × (rows_of t.standing ≡ left)
ended-ok (Ok t) left e = (t, refl, (let same : rows_of t.standing ≡ left = cc in same))
ended-ok (Err (halt.Unsat steps)) left e = cc
ended-ok (Err halt.Overflow) left e = cc
ended-ok (Err halt.Memory) left e = cc

pub left-of : (keep : List ℕ) (rows left : List Linear) → Each IsNormal rows → NoDisequation rows → rows_left (elimination_dropping keep rows) ≡ Ok (Some left) → LeftOf keep rows left
left-of keep rows left n p e =
    let t = ended-ok (elimination_dropping keep rows) left e in
    subst (LeftOf keep rows) t.2 (left-extends keep rows t.0 n p t.1)

pub lacks : (keep : List ℕ) (rows left : List Linear) → Each IsNormal rows → NoDisequation rows → rows_left (elimination_dropping keep rows) ≡ Ok (Some left) → Each (λ (r : Linear). row_has (is_dropped keep) r ≡ false) left
lacks keep rows left n p e = (left-of keep rows left n p e).lack

-- points that agree on the kept variables agree on a row without dropped ones
pub points-same : (keep : List ℕ) (v w : RationalPoint) → ((x : ℕ) → is_dropped keep x ≡ false → w x ≡ v x) → (ks : List Coeff) → list_any (λ k. is_dropped keep k.x) ks ≡ false → Each (λ k. w k.x ≡ v k.x) ks
points-same keep v w a [] e = tt
points-same keep v w a (k ∷ ks) e = let parts = or_parts (is_dropped keep k.x) (list_any (λ k. is_dropped keep k.x) ks) e in (a k.x parts.0, points-same keep v w a ks parts.1)

pub extends : (keep : List ℕ) (rows left : List Linear) → Each IsNormal rows → NoDisequation rows → rows_left (elimination_dropping keep rows) ≡ Ok (Some left) → (v : RationalPoint) → MeetsAll v left ↔ ((w : RationalPoint) × MeetsAll w rows × ((x : ℕ) → is_dropped keep x ≡ false → w x ≡ v x))
extends keep rows left n p e v = (λ m. all.extends v m, λ k. back k.0 k.1 k.2)
  where
    all : LeftOf keep rows left
    all = left-of keep rows left n p e

    back : (w : RationalPoint) → MeetsAll w rows → ((x : ℕ) → is_dropped keep x ≡ false → w x ≡ v x) → MeetsAll v left
    back w m a =
        Each-map (λ (r : Linear). (row_has (is_dropped keep) r ≡ false) × Holds w r) (Holds v) (λ r k. holds-same w v r (points-same keep v w a r.coeffs k.0) k.1) left (Each-both (λ (r : Linear). row_has (is_dropped keep) r ≡ false) (Holds w) left all.lack (all.met w m))

ended-unsat : (w : RationalPoint) (o : Result State Halt) → rows_left o ≡ Ok None → LeftMet w o → ⊥
ended-unsat w (Ok t) e m = cc
ended-unsat w (Err (halt.Unsat steps)) e m = m
ended-unsat w (Err halt.Overflow) e m = cc
ended-unsat w (Err halt.Memory) e m = cc

pub denied : (keep : List ℕ) (rows : List Linear) (v : RationalPoint) → NoDisequation rows → rows_left (elimination_dropping keep rows) ≡ Ok None → MeetsAll v rows → ⊥
denied keep rows v p e m = ended-unsat v (elimination_dropping keep rows) e (left-met v keep rows p m)
