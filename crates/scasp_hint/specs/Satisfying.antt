-- Whether a list of constraints has a valuation, as a test that no bound on integers cuts short. No code runs it: a hint
-- that is found, or none, tells its answer.
use Rattle.std.specs.Prelude.{◌≡◌, ℕ, Bool, false, ◌&&◌, ◌||◌, not, List, [], ◌∷◌, ◌++◌}
use Rattle.std.specs.List.{list_all, list_any}
use Rattle.scasp_num.specs.Number.{Number}
use Rattle.scasp_num.specs.Linear.{Linear}
use Rattle.scasp_list.specs.Each.{Each}
use Rattle.scasp_unify.specs.TermFailures.{fails_by_terms}
use Rattle.scasp_unify.specs.PointMeets.{PointMeets}
use Rattle.scasp_syntax.specs.declared.con.Con.{Con}
use Rattle.scasp_rows.specs.PlainRows.{is_met}
use Rattle.scasp_hint.specs.ExactRows.{exact_rows, differing}
use Rattle.scasp_hint.specs.Sides.{below, above}

abbrev pub is_side_met : List Linear → Linear → Bool
is_side_met rows r = is_met (rows ++ below r ∷ []) || is_met (rows ++ above r ∷ [])

-- some side of some part is met together with the rows
abbrev pub is_apart : List Linear → List Linear → Bool
is_apart rows parts = list_any (is_side_met rows) parts

abbrev pub sat : List Con → Bool
sat cs = not (fails_by_terms cs) && (is_met (exact_rows cs) && list_all (is_apart (exact_rows cs)) (differing cs))

-- the list does not fail by terms, and some rational point meets what it says of numbers
abbrev pub HasPoint : List Con → Type 0
HasPoint cs = (fails_by_terms cs ≡ false) × ((p : ℕ → Number) × Each (PointMeets cs p) cs)
