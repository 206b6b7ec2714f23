-- States that are put in the place of the first one.
use Rattle.std.specs.Prelude.{◌≡◌, ◌⊎◌, ℕ, ◌+◌, nat_eq, Bool, true, false, ◌&&◌, List, [], ◌∷◌, ◌++◌, Ok, refl}
use Rattle.std.proofs.Common.{inl, inr, ap, arith, subst, sym}
use Rattle.scasp_hint.specs.Satisfying.{sat}
use Rattle.scasp_search_rules.specs.Successors.Machine.{cost}
use Rattle.scasp_search_rules.specs.Successors.Search.{step}
use Rattle.scasp_search_rules.specs.declared.states.state.State.{State}
use Rattle.scasp_search_state.specs.Choices.{Point, states, waiting}
use Rattle.scasp_search_steps.specs.Foresight.{ComesToNothing, ForksIf, Skips, SkipsIf}
use Rattle.scasp_search_walk.proofs.ReachedLemmas.{reached-both, reached-none, reached-step}
use Rattle.scasp_search_walk.specs.Slices.{Steps}
use Rattle.scasp_search_walk.specs.Walks.{Reached}
use Rattle.scasp_written.proofs.WrittenLemmas.WalkLemmas.{of, working}
use Rattle.scasp_written.specs.declared.written.goal.Goal.{Goal}

-- ---- states that come to nothing

-- the walk goes on by what stands behind such a state
past : (g : Goal) (s : State) (ss : List State) (budget calls : ℕ) → ComesToNothing g.program s → Reached (of g) budget (s ∷ ss) calls ss calls
past g s ss budget calls h =
    let room : ((of g).pays s && nat_eq calls budget) ≡ false = ap (λ (b : Bool). b && nat_eq calls budget) h.free in
    let gone : Reached (of g) budget (s ∷ ss) calls ((of g).next s ++ ss) (calls + cost ((of g).pays s)) =
    reached-step (of g) budget calls calls s (s ∷ ss) ss (reached-none (of g) budget calls (s ∷ ss)) (working g s h.works h.stays) room in
    let behind : Reached (of g) budget (s ∷ ss) calls ss (calls + cost ((of g).pays s)) =
    subst (λ (ts : List State). Reached (of g) budget (s ∷ ss) calls (ts ++ ss) (calls + cost ((of g).pays s))) h.none gone in
    let free : Reached (of g) budget (s ∷ ss) calls ss (calls + 0) =
    subst (λ (b : Bool). Reached (of g) budget (s ∷ ss) calls ss (calls + cost b)) h.free behind in
    let same : calls + 0 ≡ calls = omega arith in
    subst (λ (n : ℕ). Reached (of g) budget (s ∷ ss) calls ss n) same free

skipped : (g : Goal) (old new : List State) → Skips g.program old new → (budget calls : ℕ) → Reached (of g) budget old calls new calls
skipped g [] new e budget calls = subst (λ (ss : List State). Reached (of g) budget [] calls ss calls) (sym e) (reached-none (of g) budget calls [])
skipped g (s ∷ ss) new (inl e) budget calls = subst (λ (ts : List State). Reached (of g) budget (s ∷ ss) calls ts calls) (sym e) (reached-none (of g) budget calls (s ∷ ss))
skipped g (s ∷ ss) new (inr h) budget calls = reached-both (of g) budget calls calls calls (s ∷ ss) ss new (past g s ss budget calls h.0) (skipped g ss new h.1 budget calls)

skipped-if : (g : Goal) (may : Bool) (old new : List State) → SkipsIf may g.program old new → (budget calls : ℕ) → Reached (of g) budget old calls new calls
skipped-if g true old new h budget calls = skipped g old new h budget calls
skipped-if g false old new h budget calls = subst (λ (ss : List State). Reached (of g) budget old calls ss calls) (sym h) (reached-none (of g) budget calls old)

-- ---- a step

-- whether a state comes of the present one or none does, and those that wait are gone back to
pub stepped : (g : Goal) (may : Bool) (s now : State) (mid old : List Point) (new : List State) (went : Bool) → ForksIf may g.program (step g.program sat s) now mid old (Ok went)
    → SkipsIf may g.program (states g.program went now mid) new → Steps (of g) (s ∷ waiting g.program old) new (Ok record {})
stepped g may s now mid old new went h k = λ budget calls.
    reached-both (of g) budget calls calls calls ((of g).next s ++ waiting g.program old) (states g.program went now mid) new
    (skipped-if g may ((of g).next s ++ waiting g.program old) (states g.program went now mid) (by went h) budget calls) (skipped-if g may (states g.program went now mid) new k budget calls)
  where
    by : (b : Bool) → ForksIf may g.program (step g.program sat s) now mid old (Ok b) → SkipsIf may g.program ((step g.program sat s).states ++ waiting g.program old) (states g.program b now mid)
    by true e = e
    by false e = subst (λ (qs : List Point). SkipsIf may g.program ((step g.program sat s).states ++ waiting g.program old) (waiting g.program qs)) (sym e.1) e.0
