-- Lists of terms that are compared as bindings read them.
use Rattle.std.specs.Prelude.{ℕ, ◌+◌, ◌*◌, Bool, true, false, ◌&&◌, List, Option}
use Rattle.scasp_bound.specs.declared.sameness.Left.{Left}
use Rattle.scasp_bound.specs.declared.sameness.Left.TheVariants as left
use Rattle.scasp_bound.specs.declared.sameness.Pair.{Pair}
use Rattle.scasp_bound.specs.Inside.Reading.{piece_read}
use Rattle.scasp_syntax.specs.Same.{same_tms}
use Rattle.scasp_syntax.specs.Tm.{weight_s}
use Rattle.scasp_unify.specs.declared.bindings.Binding.{Binding}

abbrev pub is_same : List (Option Binding) → Pair → Bool
is_same bs p = same_tms (piece_read bs p.left) (piece_read bs p.right)

-- what is left is the same
abbrev pub are_same : List (Option Binding) → Left → Bool
are_same bs left.Apart = false
are_same bs left.Nothing = true
are_same bs (left.Rest rest) = is_same bs rest
are_same bs (left.Both args rest) = is_same bs args && is_same bs rest

-- what is left to do with two lists
abbrev pub work : List (Option Binding) → Pair → ℕ
work bs p = 1 + 2 * weight_s (piece_read bs p.left)

abbrev pub left_work : List (Option Binding) → Left → ℕ
left_work bs left.Apart = 0
left_work bs left.Nothing = 0
left_work bs (left.Rest rest) = work bs rest
left_work bs (left.Both args rest) = work bs args + work bs rest
