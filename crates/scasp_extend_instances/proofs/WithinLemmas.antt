-- Where no row overflows, the instances within the range of the numbers are all instances.
use Rattle.std.proofs.Common.{◌≡◌, ◌∙◌, ◌∷◌, Bool, true, false, ◌||◌, not, cond, List, [], Option, None, Some, is_some, refl, ap, sym}
use Rattle.std.specs.List.{flat_map, list_any}
use Rattle.std.proofs.lemmas.Bool.{or_parts, true≢false}
use Rattle.scasp_ground.specs.Bounded.{tested}
use Rattle.scasp_ground.proofs.TestLemmas.{tested-holds}
use Rattle.scasp_lines.specs.Opened.{Opened, ranges, shaped, assumed}
use Rattle.scasp_lines.specs.Ways.{step, ways}
use Rattle.scasp_syntax.specs.Constraints.{holds}
use Rattle.scasp_syntax.specs.Tm.{Tm}
use Rattle.scasp_syntax.specs.Values.{Sub}
use Rattle.scasp_extend_instances.specs.Within.{entry_overflows, overflows, passes, step_within, ways_within}

step-all : (d : List Tm) (o : Opened) (v : Sub) → entry_overflows o v ≡ false → step_within d o v ≡ step d o v
step-all d (ranges x) v e = refl
step-all d (shaped x f k n) v e = refl
step-all d (assumed c) v e = by (tested v c) refl e
  where
    by : (o : Option Bool) → tested v c ≡ o → not (is_some o) ≡ false → step_within d (assumed c) v ≡ step d (assumed c) v
    by None h e = absurd (true≢false e)
    by (Some b) h e = ap (λ z. cond (passes z) (v ∷ []) []) h ∙ ap (λ z. cond z (v ∷ []) []) (tested-holds v c b h)

steps-all : (d : List Tm) (o : Opened) (vs : List Sub) → list_any (entry_overflows o) vs ≡ false → flat_map (step_within d o) vs ≡ flat_map (step d o) vs
steps-all d o [] e = refl
steps-all d o (v ∷ vs) e =
    let p = or_parts (entry_overflows o v) (list_any (entry_overflows o) vs) e in
    joined (step-all d o v p.0) (steps-all d o vs p.1)
  where
    joined : step_within d o v ≡ step d o v → flat_map (step_within d o) vs ≡ flat_map (step d o) vs
        → flat_map (step_within d o) (v ∷ vs) ≡ flat_map (step d o) (v ∷ vs)
    joined f g = cc

pub within-all : (d : List Tm) (os : List Opened) (v : Sub) → overflows d os v ≡ false → ways_within d os v ≡ ways d os v
within-all d [] v e = refl
within-all d (o ∷ os) v e =
    let p = or_parts (overflows d os v) (list_any (entry_overflows o) (ways_within d os v)) e in
    steps-all d o (ways_within d os v) p.1 ∙ ap (flat_map (step d o)) (within-all d os v p.0)
