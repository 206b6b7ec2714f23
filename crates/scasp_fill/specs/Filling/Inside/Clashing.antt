-- Clash lines that are found pair by pair.
use Rattle.std.specs.Prelude.{ℕ, Bool, true, false, if◌then◌else◌, ◌&&◌, ◌||◌, is_some, List, [], ◌∷◌, ◌++◌}
use Rattle.scasp_checker_rules.specs.Told.{Told}
use Rattle.scasp_hint.specs.Finding.{Found}
use Rattle.scasp_syntax.specs.declared.con.Con.{Con}
use Rattle.scasp_syntax.specs.declared.hint.Hint.{Hint}
use Rattle.scasp_syntax.specs.declared.hint.Hint.TheVariants as hints
use Rattle.scasp_fill.specs.Filling.Filled.{clash_by, clash_for, hint_of, is_known, is_pair_known}
use Rattle.scasp_fill.specs.declared.filling.clashes.Clashing.{Clashing}

-- with the clash line of a pair
abbrev pub with_pair : ℕ → List Con → Told × Told → Clashing → Clashing
with_pair free given ab m =
    record { clashes = m.clashes ++ clash_for free given ab; known = m.known && is_pair_known free given ab }

abbrev pub with_clash : ℕ → ℕ → Hint → Clashing → Clashing
with_clash first second h m = record m { clashes = m.clashes ++ record { first = first; second = second; hint = h } ∷ [] }

-- the terms alone show it
abbrev pub is_terms : Hint → Bool
is_terms hints.Terms = true
is_terms (hints.Rows steps) = false
is_terms (hints.Same n lists) = false

-- with the clash line of two lines, unless their terms show them apart
abbrev pub with_shown : ℕ → ℕ → Hint → Clashing → Clashing
with_shown first second h m = if is_terms h then m else with_clash first second h m

-- with the clash line from the list of the two the other way round, where it is told whether the first list is known
abbrev pub with_turned : ℕ → ℕ → Bool → Found → Clashing → Clashing
with_turned first second known other m =
    record { clashes = m.clashes ++ clash_by second first (hint_of other); known = m.known && (is_some (hint_of other) || (known && is_known other)) }

-- with the clash lines of these pairs
abbrev pub with_pairs : ℕ → List Con → List (Told × Told) → Clashing → Clashing
with_pairs free given [] m = m
with_pairs free given (ab ∷ abs) m = with_pairs free given abs (with_pair free given ab m)
