-- What changes of the literals are in a state that has them.
use Rattle.std.proofs.Common.{◌≡◌, ℕ, Bool, true, false, ◌&&◌, if◌then◌else◌, List, [], ◌∷◌, map, refl, ap, sym, ◌∙◌}
use Rattle.scasp_loops.specs.Inside.Open.{holding, left, looped_out}
use Rattle.scasp_readings.specs.Readings.{reading}
use Rattle.scasp_search_rules.specs.Successors.Calls.{ancestors, at_number, finished, leave_literal, marked, moved}
use Rattle.scasp_search_rules.specs.Successors.Calls as calls
use Rattle.scasp_search_rules.specs.Successors.Cases.{kept_literal}
use Rattle.scasp_search_rules.specs.declared.states.state.Literal.{Literal}
use Rattle.scasp_search_rules.specs.declared.states.state.State.{State}
use Rattle.scasp_unify.specs.declared.bindings.Binding.{Binding}

-- ---- a loop that leads out

marked-alone : (xs : List Literal) (s : State) → record s { literals = (marked xs (holding s.literals)).literals } ≡ marked xs s
marked-alone [] s = refl
marked-alone (a ∷ rest) s = refl

pub looped_of : (s : State) (ls news : List Literal) → s.literals ≡ ls → news ≡ looped_out ls → record s { literals = news } ≡ marked (ancestors s) s
looped_of s ls news e n = ap (λ (xs : List Literal). record s { literals = xs }) (n ∙ ap looped_out (sym e)) ∙ marked-alone (ancestors s) s

-- ---- the end of a literal

moved-alone : (a : Literal) (rest : List Literal) (s : State) (ls : List Literal) → record s { literals = (moved a rest (holding ls)).literals } ≡ moved a rest (record s { literals = ls })
moved-alone a [] s ls = refl
moved-alone a (b ∷ bs) s ls = by (a.loops && a.lit.positive && b.lit.positive)
  where
    by : (c : Bool) → record s { literals = (if c then marked (b ∷ bs) (holding ls) else holding ls).literals } ≡ (if c then marked (b ∷ bs) (record s { literals = ls }) else record s { literals = ls })
    by true = refl
    by false = refl

left-alone : (xs : List Literal) (s : State) → record s { literals = (calls.left xs (holding s.literals)).literals } ≡ calls.left xs s
left-alone [] s = refl
left-alone (a ∷ rest) s = moved-alone a rest s (at_number a.number finished s.literals)

pub left_of : (s : State) (ls news : List Literal) → s.literals ≡ ls → news ≡ left ls → record s { literals = news } ≡ leave_literal s
left_of s ls news e n = ap (λ (xs : List Literal). record s { literals = xs }) (n ∙ ap left (sym e)) ∙ left-alone (ancestors s) s

-- ---- the end of a case

pub kept_of : (s : State) (bs : List Binding) (us : List ℕ) (ls news : List Literal) → s.literals ≡ ls → s.bound ≡ bs → news ≡ map (kept_literal (reading bs) us) ls
    → news ≡ map (kept_literal s us) s.literals
kept_of s bs us ls news e b n = n ∙ (λ i. map (kept_literal (reading (sym b i)) us) (sym e i))
