-- A hint without the steps whose rows no later step uses.
use Rattle.std.specs.Prelude.{ℕ, suc, ◌-◌, Bool, ◌||◌, nat_eq, nat_lt, is_none, if◌then◌else◌, IsTrue, ⊤, List, [], ◌∷◌, map, length}
use Rattle.std.specs.List.{list_any}
use Rattle.scasp_num.specs.declared.hints.Step.{Step}
use Rattle.scasp_syntax.specs.declared.con.Con.{Con}
use Rattle.scasp_syntax.specs.declared.hint.Hint.{Hint}
use Rattle.scasp_syntax.specs.declared.hint.Hint.TheVariants as hints
use Rattle.scasp_hint.specs.AskedRows.{given_rows, inequalities}
use Rattle.scasp_hint.specs.Finding.{Found, found, hint, nothing, unknown_list}
use Rattle.scasp_hint.specs.Showing.{fault_of}

-- ---- steps

-- the step uses the row with this number
abbrev pub uses : ℕ → Step → Bool
uses k s = nat_eq s.p k || nat_eq s.q k

-- the number of a row, where the row with number k is left out
abbrev pub number_without : ℕ → ℕ → ℕ
number_without k n = if nat_lt k n then n - 1 else n

abbrev pub step_without : ℕ → Step → Step
step_without k s = record { a = s.a; p = number_without k s.p; b = s.b; q = number_without k s.q }

-- a step that makes the row with number k, before others: it stays if it is the last one, or some other uses its row
abbrev pub put : ℕ → Step → List Step → List Step
put k s [] = s ∷ []
put k s (t ∷ later) = if list_any (uses k) (t ∷ later) then s ∷ t ∷ later else map (step_without k) (t ∷ later)

-- the steps that make the rows from number k on, without those whose rows no later one of those that stay uses
abbrev pub pruned : ℕ → List Step → List Step
pruned k [] = []
pruned k (s ∷ rest) = put k s (pruned (suc k) rest)

-- ---- hints

-- how many rows the list asks about
abbrev pub row_count : List Con → ℕ
row_count cs = length (inequalities (given_rows cs))

-- a side of a disequation is one row more
abbrev pub pruned_hint : ℕ → Hint → Hint
pruned_hint n hints.Terms = hints.Terms
pruned_hint n (hints.Rows steps) = hints.Rows (pruned (suc n) steps)
pruned_hint n (hints.Same i lists) = hints.Same i (map (pruned (suc (suc n))) lists)

-- the hint without these steps, if it shows the list so
abbrev pub shorter : List Con → Hint → Hint
shorter cs h = if is_none (fault_of cs (pruned_hint (row_count cs) h)) then pruned_hint (row_count cs) h else h

abbrev pub with_shorter : List Con → Found → Found
with_shorter cs nothing = nothing
with_shorter cs unknown_list = unknown_list
with_shorter cs (hint h) = hint (shorter cs h)

-- the hint that is found for a list, without these steps
abbrev pub found_pruned : List Con → Found
found_pruned cs = with_shorter cs (found cs)

-- ---- used steps

-- each step but the last makes a row that a later one uses, where the first makes the row with number k
abbrev pub AreUsed : ℕ → List Step → Type 0
AreUsed k [] = ⊤
AreUsed k (s ∷ []) = ⊤
AreUsed k (s ∷ t ∷ later) = IsTrue (list_any (uses k) (t ∷ later)) × AreUsed (suc k) (t ∷ later)
