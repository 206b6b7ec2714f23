-- Small programs. What they support stands at the law `small_programs`.
use Rattle.std.specs.Prelude.{◌≡◌, true, false, List, [], ◌∷◌, Some, None}
use Rattle.std.proofs.Common.{refl}
use Rattle.scasp_model.specs.Examples.{lit, rule, p, q, r, s}
use Rattle.scasp_model.specs.Residual.{residual}
use Rattle.scasp_model.specs.declared.program.GroundClause.{GroundClause}
use Rattle.scasp_sound.specs.Support.{negated_atoms}

-- p :- p.
abbrev pub circle : List GroundClause
circle = rule (Some p) (lit true p ∷ []) ∷ []

-- where p is true, nothing is left of it
circle_left : residual (p ∷ []) [] circle ≡ []
circle_left = refl

-- p :- q. q :- p. q :- not r.
abbrev pub entered : List GroundClause
entered = rule (Some p) (lit true q ∷ []) ∷ rule (Some q) (lit true p ∷ []) ∷ rule (Some q) (lit false r ∷ []) ∷ []

-- p :- not q. q :- not p. r :- p, not s. :- r, q.
abbrev pub choice : List GroundClause
choice =
    rule (Some p) (lit false q ∷ []) ∷ rule (Some q) (lit false p ∷ []) ∷ rule (Some r) (lit true p ∷ lit false s ∷ [])
    ∷ rule None (lit true r ∷ lit true q ∷ []) ∷ []

-- r :- not s.
choice_left : residual (p ∷ []) (q ∷ []) choice ≡ rule (Some r) (lit false s ∷ []) ∷ []
choice_left = refl

negated : negated_atoms (lit true p ∷ lit false q ∷ lit false p ∷ []) ≡ q ∷ p ∷ []
negated = refl
