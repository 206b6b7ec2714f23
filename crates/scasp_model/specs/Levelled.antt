-- The levelled model of ground rules: level by level, and within a level by two signs.
use Rattle.std.specs.Prelude.{ℕ, zero, suc, ◌+◌, max, Bool, ◌&&◌, not, nat_eq, nat_lt, List, [], ◌∷◌, ◌++◌, length, filter, Option, None, Some, if◌then◌else◌}
use Rattle.std.specs.List.{list_any, flat_map}
use Rattle.scasp_syntax.specs.declared.atom.Atom.{Atom}
use Rattle.scasp_syntax.specs.declared.atom.Lit.{Lit}
use Rattle.scasp_model.specs.Least.{least_model}
use Rattle.scasp_model.specs.Programs.{rules_for}
use Rattle.scasp_model.specs.Reduct.{reduct}
use Rattle.scasp_model.specs.Stable.{is_true_in}
use Rattle.scasp_model.specs.declared.program.GroundClause.{GroundClause}

-- what the rules for atoms with `-` give, where `not a` holds if a is not in s
abbrev pub minus_by : (Atom → Bool) → List GroundClause → List Atom → List Atom
minus_by plus g s = least_model (reduct s (rules_for (λ a. not (plus a)) g))

-- the next atoms with `+`: what the rules for such atoms give, where `not a` holds if a is not among the atoms with `-` by s
abbrev pub next_plus : (Atom → Bool) → List GroundClause → List Atom → List Atom
next_plus plus g s = least_model (reduct (minus_by plus g s) (rules_for plus g))

-- the atoms with `+` after n steps from nothing
abbrev pub plus_steps : (Atom → Bool) → List GroundClause → ℕ → List Atom
plus_steps plus g zero = []
plus_steps plus g (suc n) = next_plus plus g (plus_steps plus g n)

-- each step that is not the last adds a head, so there are at most as many as rules
abbrev pub plus_model : (Atom → Bool) → List GroundClause → List Atom
plus_model plus g = plus_steps plus g (length g)

-- these atoms with `+`, and the atoms with `-` by them
abbrev pub with_minus : (Atom → Bool) → List GroundClause → List Atom → List Atom
with_minus plus g s = s ++ minus_by plus g s

-- the model of rules of one level
abbrev pub signed_model : (Atom → Bool) → List GroundClause → List Atom
signed_model plus g = with_minus plus g (plus_model plus g)

-- the literal is of a level below n
abbrev pub is_lower : (Atom → ℕ) → ℕ → Lit → Bool
is_lower level n l = nat_lt (level l.atom) n

-- what is left where the literals of levels below n are read in m: nothing if one is false in m, else the clause without them
abbrev pub read_lower : (Atom → ℕ) → ℕ → List Atom → GroundClause → List GroundClause
read_lower level n m c =
    if list_any (λ l. is_lower level n l && not (is_true_in m l)) c.body
    then []
    else record { head = c.head; body = filter (λ l. not (is_lower level n l)) c.body } ∷ []

-- what is left so of the rules of level n
abbrev pub at_level : (Atom → ℕ) → ℕ → List Atom → List GroundClause → List GroundClause
at_level level n m g = flat_map (read_lower level n m) (rules_for (λ a. nat_eq (level a) n) g)

-- the atoms of lower levels, and behind them the model of the rules of level n
abbrev pub with_level : (Atom → ℕ) → (Atom → Bool) → List GroundClause → ℕ → List Atom → List Atom
with_level level plus g n m = m ++ signed_model plus (at_level level n m g)

-- the atoms of levels below n
abbrev pub below_level : (Atom → ℕ) → (Atom → Bool) → List GroundClause → ℕ → List Atom
below_level level plus g zero = []
below_level level plus g (suc n) = with_level level plus g n (below_level level plus g n)

-- a number above the level of the head
abbrev pub above_head : (Atom → ℕ) → Option Atom → ℕ
above_head level None = 0
above_head level (Some a) = level a + 1

-- the least number above the levels of all heads
abbrev pub above_heads : (Atom → ℕ) → List GroundClause → ℕ
above_heads level [] = 0
above_heads level (c ∷ g) = max (above_head level c.head) (above_heads level g)

abbrev pub levelled_model : (Atom → ℕ) → (Atom → Bool) → List GroundClause → List Atom
levelled_model level plus g = below_level level plus g (above_heads level g)
