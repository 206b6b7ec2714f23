-- The states that come of a step, one by one.
use Rattle.std.specs.Prelude.{◌≡◌, ◌<◌, ◌++◌, Bool, true, false, Err, List, [], ◌∷◌, length}
use Rattle.std.proofs.Common.{append_assoc, arith, ap, subst, sym, ◌∙◌}
use Rattle.std.proofs.lemmas.Bool.{true≢false}
use Rattle.std.proofs.lemmas.List.{append-nil}
use Rattle.scasp_hint.specs.Satisfying.{sat}
use Rattle.scasp_search_constraints.specs.Assuming.Taken.{Gives}
use Rattle.scasp_search_constraints.specs.declared.assuming.step.SearchErr.{SearchErr}
use Rattle.scasp_search_constraints.specs.declared.assuming.step.SearchErr.TheVariants as errors
use Rattle.scasp_search_rules.specs.Successors.Search.{step}
use Rattle.scasp_search_rules.specs.declared.states.state.State.{State}
use Rattle.scasp_search_state.specs.Choices.{Forked, Point, states, waiting}
use Rattle.scasp_search_steps.specs.Foresight.{ForkedIf, ForksIf}
use Rattle.scasp_syntax.specs.declared.program.Program.{Program}

-- ---- the states that are still to be gone through

-- a copy of the first of them, and then those that waited
pub first_copied : (p : Program) (all more left whole : List State) (s t : State) (points : List Point) (b : Bool) → b ≡ true
    → all ++ states p b s points ≡ whole → t ≡ s → more ≡ all ++ t ∷ [] → left ≡ waiting p points → more ++ left ≡ whole
first_copied p all more left whole s t points b e h c m w =
    ap (λ (xs : List State). xs ++ left) m ∙ append_assoc all (t ∷ []) left
    ∙ ap (λ (xs : List State). all ++ t ∷ xs) w ∙ ap (λ (u : State). all ++ u ∷ waiting p points) c
    ∙ (ap (λ (is : Bool). all ++ states p is s points) (sym e) ∙ h)

pub one_fewer : (p : Program) (left : List State) (s : State) (points : List Point) (b : Bool) → b ≡ true → left ≡ waiting p points
    → length left < length (states p b s points)
one_fewer p left s points b e w =
    subst (λ (is : Bool). length left < length (states p is s points)) (sym e) (subst (λ (xs : List State). length left < length (s ∷ xs)) w (omega arith))

pub none_left : (p : Program) (all whole : List State) (s : State) (points : List Point) (b : Bool) → b ≡ false → points ≡ []
    → all ++ states p b s points ≡ whole → all ≡ whole
none_left p all whole s points b e n h =
    sym (append-nil all)
    ∙ (ap (λ (qs : List Point). all ++ waiting p qs) (sym n) ∙ (ap (λ (is : Bool). all ++ states p is s points) (sym e) ∙ h))

-- ---- a step of a state behind which none waits

pub none_waits : (p : Program) (ss : List State) (now : State) (new old : List Point) (went : Bool) → old ≡ [] → Forked p ss now new old went
    → went ≡ false → new ≡ []
none_waits p ss now new old true e h f = absurd (cc f)
none_waits p ss now new old false e h f = h.1 ∙ e

all_forked : (p : Program) (ss : List State) (now : State) (new old : List Point) (went : Bool) → old ≡ [] → Forked p ss now new old went
    → states p went now new ≡ ss
all_forked p ss now new old true e h = h ∙ (ap (λ (qs : List Point). ss ++ waiting p qs) e ∙ append-nil ss)
all_forked p ss now new old false e h = ap (λ (qs : List Point). waiting p qs) (h.1 ∙ e) ∙ sym h.0

-- where no state may be left out, the states are all of them
pub all_there : (may : Bool) (p : Program) (ss : List State) (now : State) (new old : List Point) (went : Bool) → may ≡ false → old ≡ [] → ForkedIf may p ss now new old went
    → Forked p ss now new old went
all_there true p ss now new old went m e h = absurd (true≢false m)
all_there false p ss now new old true m e h = h
all_there false p ss now new old false m e h =
    let same : ss ++ waiting p old ≡ ss = ap (λ (qs : List Point). ss ++ waiting p qs) e ∙ append-nil ss in
    (sym same ∙ sym h.0 ∙ ap (λ (qs : List Point). waiting p qs) e, h.1)

pub all_stepped : (p : Program) (s now : State) (new old : List Point) (went : Bool) (all : List State) → old ≡ [] → Forked p (step p sat s).states now new old went
    → all ≡ states p went now new → all ≡ (step p sat s).states
all_stepped p s now new old went all n h a = a ∙ all_forked p (step p sat s).states now new old went n h

pub not_stepped : (may : Bool) (p : Program) (s now : State) (new old : List Point) (e : SearchErr) → ForksIf may p (step p sat s) now new old (Err e)
    → Gives (Err e) (step p sat s).states (step p sat s).asked
not_stepped may p s now new old errors.Overflow h = h
not_stepped may p s now new old errors.Memory h = tt
