-- Clauses that were checked on the lines before one.
use Rattle.std.specs.Prelude.{◌≡◌, ℕ, ◌<◌, nat_lt}
use Rattle.std.specs.List.{list_all}
use Rattle.scasp_lines.specs.Walk.{Part, of_node, of_rule, of_check, of_case}
use Rattle.scasp_checker_rules.specs.Wholes.{Whole, checked_before}

-- a clause lies above all of them exactly where it lies above this one, which is 0 where there are none
abbrev pub AreBelow : Whole → ℕ → ℕ → Type 0
AreBelow w at before = (k : ℕ) → 0 < k → list_all (λ j. nat_lt j k) (checked_before w at) ≡ nat_lt before k

-- the clause that is checked on a line, or else the one that was checked before
abbrev pub last_check : Part → ℕ → ℕ
last_check (of_check k b) before = k
last_check (of_node due t) before = before
last_check (of_rule k a b) before = before
last_check (of_case body b) before = before
