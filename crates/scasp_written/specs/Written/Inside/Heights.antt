-- A measure of a stack that falls at each step that costs nothing.
use Rattle.std.specs.Prelude.{ℕ, zero, suc, ◌+◌, ◌-◌, ◌*◌, ◌^◌, ◌<◌, ◌≤◌, List, [], ◌∷◌}
use Rattle.scasp_written.specs.declared.written.stack.Waiting.{Waiting}
use Rattle.scasp_search_rules.specs.declared.states.state.State.{State}
use Rattle.scasp_search_rules.specs.Successors.Falls.{packed, size, weight}

-- a number that is more than so many of the one below it as a step can have states after it
unfoldable pub tower : ℕ → ℕ
tower zero = 1
tower (suc n) = 2 ^ 64 * tower n

abbrev pub height : Waiting → ℕ
height w = tower (packed w.made (weight w.state.work))

abbrev pub total : List Waiting → ℕ
total [] = 0
total (w ∷ ws) = height w + total ws

-- The measure of the state is below p, if its two parts are in range; `made` variables and bindings were made up to a state that had
-- `before` of them.
abbrev pub IsBelow : ℕ → ℕ → ℕ → State → Type 0
IsBelow before made p s =
    made + (size s - before) ≤ 2 ^ 64 → weight s.work < 2 ^ 67 → packed (made + (size s - before)) (weight s.work) < p
