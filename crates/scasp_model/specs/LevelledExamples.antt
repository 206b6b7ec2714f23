-- Small levelled models, computed.
use Rattle.std.specs.Prelude.{◌≡◌, ℕ, Bool, true, false, ◌||◌, nat_eq, nat_lt, List, [], ◌∷◌, Some, None, if◌then◌else◌}
use Rattle.std.proofs.Common.{refl}
use Rattle.scasp_syntax.specs.declared.atom.Atom.{Atom}
use Rattle.scasp_model.specs.Examples.{lit, rule, p, q, r, s}
use Rattle.scasp_model.specs.Levelled.{at_level, plus_steps, signed_model, levelled_model}
use Rattle.scasp_model.specs.Levels.{keeps_levels}
use Rattle.scasp_model.specs.Residual.{residual}
use Rattle.scasp_model.specs.declared.program.GroundClause.{GroundClause}

-- p and q are of level 1, r and s of level 3
abbrev level : Atom → ℕ
level a = if nat_lt a.name 4 then 1 else 3

-- p and r have `+`, q and s have `-`
abbrev plus : Atom → Bool
plus a = nat_eq a.name 2 || nat_eq a.name 4

-- p :- not q. q :- not p. r :- not s. s :- not r.
abbrev loops : List GroundClause
loops = rule (Some p) (lit false q ∷ []) ∷ rule (Some q) (lit false p ∷ []) ∷ rule (Some r) (lit false s ∷ []) ∷ rule (Some s) (lit false r ∷ []) ∷ []

loops_keep : keeps_levels level plus loops ≡ true
loops_keep = refl

loops_need_signs : keeps_levels level (λ a. true) loops ≡ false
loops_need_signs = refl

loops_model : levelled_model level plus loops ≡ q ∷ s ∷ []
loops_model = refl

-- where p is true and q false, the second loop is left: r :- not s. s :- not r.
loop_left : residual (p ∷ []) (q ∷ []) loops ≡ rule (Some r) (lit false s ∷ []) ∷ rule (Some s) (lit false r ∷ []) ∷ []
loop_left = refl

-- by the model of what is left, p and s are true
left_model : levelled_model level plus (residual (p ∷ []) (q ∷ []) loops) ≡ s ∷ []
left_model = refl

-- :- not q.
denial_never : keeps_levels level plus (rule None (lit false q ∷ []) ∷ []) ≡ false
denial_never = refl

-- p :- r.
higher_never : keeps_levels level plus (rule (Some p) (lit true r ∷ []) ∷ []) ≡ false
higher_never = refl

-- q :- not p. s :- not r. p. r :- not q.
abbrev row : List GroundClause
row = rule (Some q) (lit false p ∷ []) ∷ rule (Some s) (lit false r ∷ []) ∷ rule (Some p) [] ∷ rule (Some r) (lit false q ∷ []) ∷ []

-- p, and by it no q, so r
first_step : plus_steps plus row 1 ≡ p ∷ []
first_step = refl

second_step : plus_steps plus row 2 ≡ p ∷ r ∷ []
second_step = refl

row_model : signed_model plus row ≡ p ∷ r ∷ []
row_model = refl

-- s :- q. r :- p, not s. p :- not q. q.
abbrev rising : List GroundClause
rising =
    rule (Some s) (lit true q ∷ []) ∷ rule (Some r) (lit true p ∷ lit false s ∷ []) ∷ rule (Some p) (lit false q ∷ []) ∷ rule (Some q) [] ∷ []

rising_keeps : keeps_levels level plus rising ≡ true
rising_keeps = refl

-- s. where q is true; r :- not s. where p is
by_q : at_level level 3 (q ∷ []) rising ≡ rule (Some s) [] ∷ []
by_q = refl

by_p : at_level level 3 (p ∷ []) rising ≡ rule (Some r) (lit false s ∷ []) ∷ []
by_p = refl

lower_first : levelled_model level plus rising ≡ q ∷ s ∷ []
lower_first = refl
