-- Steps whose rows later ones use.
use Rattle.std.proofs.Common.{◌≡◌, ℕ, suc, ◌≤◌, arith, Bool, true, false, ◌||◌, List, [], ◌∷◌, map, refl, sym, ap, subst, ◌∙◌}
use Rattle.std.specs.Prelude.{if◌then◌else◌, nat_eq}
use Rattle.std.specs.List.{list_any}
use Rattle.std.proofs.lemmas.Bool.{or_left, or_right}
use Rattle.scasp_list.specs.Each.{Each}
use Rattle.scasp_num.specs.declared.hints.Step.{Step}
use Rattle.scasp_rows.specs.Steps.{StepInRange}
use Rattle.scasp_hint_steps.specs.Pruned.{AreUsed, number_without, pruned, put, step_without, uses}

-- ---- a row that is left out

number-lowered : (k j p : ℕ) → k ≤ j → nat_eq p (suc j) ≡ true → nat_eq (number_without k p) j ≡ true
number-lowered k j p h e = grind arith

uses-lowered : (k j : ℕ) (s : Step) → k ≤ j → uses (suc j) s ≡ true → uses j (step_without k s) ≡ true
uses-lowered k j s h e = by (nat_eq s.p (suc j)) refl
  where
    by : (b : Bool) → nat_eq s.p (suc j) ≡ b → uses j (step_without k s) ≡ true
    by true p = or_left (nat_eq (number_without k s.p) j) (nat_eq (number_without k s.q) j) (number-lowered k j s.p h p)
    by false p = or_right (nat_eq (number_without k s.p) j) (nat_eq (number_without k s.q) j) (number-lowered k j s.q h (sym (ap (λ b. b || nat_eq s.q (suc j)) p) ∙ e))

any-lowered : (k j : ℕ) (later : List Step) → k ≤ j → list_any (uses (suc j)) later ≡ true → list_any (uses j) (map (step_without k) later) ≡ true
any-lowered k j [] h e = cc
any-lowered k j (s ∷ later) h e = by (uses (suc j) s) refl (any-lowered k j later h)
  where
    by : (b : Bool) → uses (suc j) s ≡ b → (list_any (uses (suc j)) later ≡ true → list_any (uses j) (map (step_without k) later) ≡ true) → list_any (uses j) (map (step_without k) (s ∷ later)) ≡ true
    by true p rest = or_left (uses j (step_without k s)) (list_any (uses j) (map (step_without k) later)) (uses-lowered k j s h p)
    by false p rest = or_right (uses j (step_without k s)) (list_any (uses j) (map (step_without k) later)) (rest (sym (ap (λ b. b || list_any (uses (suc j)) later) p) ∙ e))

used-lowered : (k j : ℕ) (later : List Step) → k ≤ j → AreUsed (suc j) later → AreUsed j (map (step_without k) later)
used-lowered k j [] h u = tt
used-lowered k j (s ∷ []) h u = tt
used-lowered k j (s ∷ t ∷ later) h u = (any-lowered k j (t ∷ later) h u.0, used-lowered k (suc j) (t ∷ later) (omega arith) u.1)

put-used : (k : ℕ) (s : Step) (later : List Step) → AreUsed (suc k) later → AreUsed k (put k s later)
put-used k s [] u = tt
put-used k s (t ∷ later) u = by (list_any (uses k) (t ∷ later)) refl
  where
    step : Bool → List Step
    step b = if b then s ∷ t ∷ later else map (step_without k) (t ∷ later)

    by : (b : Bool) → list_any (uses k) (t ∷ later) ≡ b → AreUsed k (put k s (t ∷ later))
    by true p = subst (λ (b : Bool). AreUsed k (step b)) (sym p) (p, u)
    by false p = subst (λ (b : Bool). AreUsed k (step b)) (sym p) (used-lowered k k (t ∷ later) (omega arith) u)

pub pruned-used : (k : ℕ) (steps : List Step) → AreUsed k (pruned k steps)
pruned-used k [] = tt
pruned-used k (s ∷ rest) = put-used k s (pruned (suc k) rest) (pruned-used (suc k) rest)

-- ---- multipliers

lowered-range : (k : ℕ) (steps : List Step) → Each StepInRange steps → Each StepInRange (map (step_without k) steps)
lowered-range k [] h = tt
lowered-range k (s ∷ steps) h = (h.0, lowered-range k steps h.1)

put-range : (k : ℕ) (s : Step) (later : List Step) → StepInRange s → Each StepInRange later → Each StepInRange (put k s later)
put-range k s [] a h = (a, tt)
put-range k s (t ∷ later) a h = by (list_any (uses k) (t ∷ later)) refl
  where
    step : Bool → List Step
    step b = if b then s ∷ t ∷ later else map (step_without k) (t ∷ later)

    by : (b : Bool) → list_any (uses k) (t ∷ later) ≡ b → Each StepInRange (put k s (t ∷ later))
    by true p = subst (λ (b : Bool). Each StepInRange (step b)) (sym p) (a, h)
    by false p = subst (λ (b : Bool). Each StepInRange (step b)) (sym p) (lowered-range k (t ∷ later) h)

pub pruned-range : (k : ℕ) (steps : List Step) → Each StepInRange steps → Each StepInRange (pruned k steps)
pruned-range k [] h = tt
pruned-range k (s ∷ rest) h = put-range k s (pruned (suc k) rest) h.0 (pruned-range (suc k) rest h.1)

pub lists-range : (k : ℕ) (lists : List (List Step)) → Each (Each StepInRange) lists → Each (Each StepInRange) (map (pruned k) lists)
lists-range k [] h = tt
lists-range k (steps ∷ lists) h = (pruned-range k steps h.0, lists-range k lists h.1)
