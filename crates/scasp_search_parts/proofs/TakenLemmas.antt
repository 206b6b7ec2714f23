-- The frame that was put last is taken.
use Rattle.std.proofs.Common.{◌≡◌, ◌+◌, ◌-◌, ℕ, None, Some, List, [], ◌∷◌, ◌++◌, length, take, length-append, arith, refl, sym, ap, ◌∙◌}
use Rattle.std.proofs.lemmas.List.{take-append-le, take_all}
use Rattle.scasp_search_parts.specs.Taken.{Takes}
use Rattle.scasp_search_parts.specs.Times.{after}
use Rattle.scasp_search_parts.specs.declared.frame.Frame.{Frame}
use Rattle.scasp_trail.specs.Past.{Past}

pub none_taken : (s : Past Frame) → length s.now ≡ 0 → Takes None s s
none_taken s h = (empty s.now h, refl)
  where
    empty : (fs : List Frame) → length fs ≡ 0 → fs ≡ []
    empty [] h = refl
    empty (f ∷ fs) h = absurd (omega (arith, h))

all_but_last : (fs us : List Frame) (f : Frame) → fs ≡ us ++ f ∷ [] → take (length fs - 1) fs ≡ us
all_but_last fs us f e =
    let n : length fs ≡ length us + 1 = ap length e ∙ length-append us (f ∷ []) in
    let m : length fs - 1 ≡ length us = omega (arith, n) in
    ap (λ (k : ℕ). take k fs) m ∙ ap (λ gs. take (length us) gs) e
    ∙ take-append-le (length us) us (f ∷ []) (omega arith) ∙ take_all (length us) us (omega arith)

pub last_taken : (s r : Past Frame) (us : List Frame) (f g : Frame) → s.now ≡ us ++ f ∷ [] → g ≡ f
    → r ≡ after s (take (length s.now - 1) s.now) → Takes (Some g) s r
last_taken s r us f g e c n =
    let left : r.now ≡ us = ap (λ q. q.now) n ∙ all_but_last s.now us f e in
    let whole : s.now ≡ r.now ++ g ∷ [] = e ∙ ap (λ vs. vs ++ f ∷ []) (sym left) ∙ ap (λ h. r.now ++ h ∷ []) (sym c) in
    (whole, ap (λ xss. record { now = r.now; before = xss }) (ap (λ q. q.before) n))
