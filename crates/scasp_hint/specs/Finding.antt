-- The hint that is found for a list of constraints, and when an overflow is licensed.
use Rattle.std.specs.Prelude.{ℕ, suc, Bool, true, false, ◌&&◌, ◌||◌, not, List, [], ◌∷◌, ◌++◌, Result, Ok, Err}
use Rattle.std.specs.List.{list_all, list_any}
use Rattle.scasp_num.specs.declared.hints.Step.{Step}
use Rattle.scasp_num.specs.Linear.{Linear}
use Rattle.scasp_rows.specs.declared.state.Halt.{Halt}
use Rattle.scasp_rows.specs.declared.state.Halt.TheVariants as halt
use Rattle.scasp_rows.specs.declared.state.State.{State}
use Rattle.scasp_rows.specs.Elimination.{elimination}
use Rattle.scasp_syntax.specs.declared.con.Con.{Con}
use Rattle.scasp_hint.specs.Sides.{differs}
use Rattle.scasp_hint.specs.AskedRows.{asked}
use Rattle.scasp_hint.specs.declared.sides.Sides.{Sides}
use Rattle.scasp_hint.specs.declared.sides.Sides.TheVariants.{Mixed, Large, Listed}
use Rattle.scasp_hint.specs.declared.asked.Asked.{Asked}
use Rattle.scasp_hint.specs.declared.asked.Asked.TheVariants.{ByTerms, Overflows, Asks}
use Rattle.scasp_syntax.specs.declared.hint.Hint.{Hint}
use Rattle.scasp_syntax.specs.declared.hint.Hint.TheVariants as hints

-- ---- one disequation

-- some side is met, one is too large before that, or all are shown false by these lists
pub data Forced : Type 0 where
  possible : Forced
  unknown : Forced
  forced : List (List Step) → Forced

abbrev pub with_list : List Step → Forced → Forced
with_list steps possible = possible
with_list steps unknown = unknown
with_list steps (forced lists) = forced (steps ∷ lists)

abbrev pub side_asked : Result State Halt → Forced → Forced
side_asked (Ok s) rest = possible
side_asked (Err (halt.Unsat steps)) rest = with_list steps rest
side_asked (Err halt.Overflow) rest = unknown
side_asked (Err halt.Memory) rest = unknown

abbrev pub sides_asked : List Linear → List Linear → Forced
sides_asked all [] = forced []
sides_asked all (a ∷ bs) = side_asked (elimination (all ++ a ∷ [])) (sides_asked all bs)

-- ---- the first hint

pub data Found : Type 0 where
  nothing : Found
  unknown_list : Found
  hint : Hint → Found

abbrev pub found_by : ℕ → Forced → Found → Found
found_by n possible rest = rest
found_by n unknown rest = unknown_list
found_by n (forced lists) rest = hint (hints.Same n lists)

abbrev pub found_at : List Linear → ℕ → Sides → Found → Found
found_at all n Mixed rest = rest
found_at all n Large rest = unknown_list
found_at all n (Listed ss) rest = found_by n (sides_asked all ss) rest

-- the disequations are tried in order, the first of them with the number n
abbrev pub first_forced : List Linear → ℕ → List Sides → Found
first_forced all n [] = nothing
first_forced all n (s ∷ ss) = found_at all n s (first_forced all (suc n) ss)

abbrev pub found_rows : List Con → List Linear → Result State Halt → Found
found_rows cs all (Ok s) = first_forced all 1 (differs cs)
found_rows cs all (Err (halt.Unsat steps)) = hint (hints.Rows steps)
found_rows cs all (Err halt.Overflow) = unknown_list
found_rows cs all (Err halt.Memory) = unknown_list

abbrev pub found_asked : List Con → Asked → Found
found_asked cs ByTerms = hint hints.Terms
found_asked cs Overflows = unknown_list
found_asked cs (Asks all) = found_rows cs all (elimination all)

abbrev pub found : List Con → Found
found cs = found_asked cs (asked cs)

-- ---- overflows that count

abbrev pub is_large : Result State Halt → Bool
is_large (Ok s) = false
is_large (Err (halt.Unsat steps)) = false
is_large (Err halt.Overflow) = true
is_large (Err halt.Memory) = true

abbrev pub is_unsat : Result State Halt → Bool
is_unsat (Ok s) = false
is_unsat (Err (halt.Unsat steps)) = true
is_unsat (Err halt.Overflow) = false
is_unsat (Err halt.Memory) = false

abbrev pub side_large : List Linear → Linear → Bool
side_large all a = is_large (elimination (all ++ a ∷ []))

abbrev pub side_unsat : List Linear → Linear → Bool
side_unsat all a = is_unsat (elimination (all ++ a ∷ []))

-- a disequation all of whose sides are unsatisfiable decides, and those after it do not count
abbrev pub some_large : List Linear → List Sides → Bool
some_large all [] = false
some_large all (Mixed ∷ ss) = some_large all ss
some_large all (Large ∷ ss) = true
some_large all (Listed bs ∷ ss) = list_any (side_large all) bs || (not (list_all (side_unsat all) bs) && some_large all ss)

abbrev pub large_rows : List Con → List Linear → Result State Halt → Bool
large_rows cs all (Ok s) = some_large all (differs cs)
large_rows cs all (Err (halt.Unsat steps)) = false
large_rows cs all (Err halt.Overflow) = true
large_rows cs all (Err halt.Memory) = true

abbrev pub large_asked : List Con → Asked → Bool
large_asked cs ByTerms = false
large_asked cs Overflows = true
large_asked cs (Asks all) = large_rows cs all (elimination all)

-- a row of the list overflows as it is resolved, or a list of rows that is asked for it overflows
abbrev pub overflows_in : List Con → Bool
overflows_in cs = large_asked cs (asked cs)
