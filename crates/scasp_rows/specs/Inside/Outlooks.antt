-- Pairs of a lower and an upper row: their steps, and how their sums end an elimination, whatever rows stand.
use Rattle.std.specs.Prelude.{ℕ, ◌+◌, Bool, true, false, if◌then◌else◌, ℤ, pos, unsigned_abs, List, [], ◌∷◌, ◌++◌, Option, Some, None, Result, Ok, Err}
use Rattle.std.specs.List.{list_any}
use Rattle.scasp_num.specs.declared.hints.Step.{Step}
use Rattle.scasp_num.specs.Linear.{Linear}
use Rattle.scasp_rows.specs.declared.falsity.Factors.{Factors}
use Rattle.scasp_rows.specs.declared.outlook.Outlook.{Outlook}
use Rattle.scasp_rows.specs.declared.outlook.Outlook.TheVariants as outlook
use Rattle.scasp_rows.specs.declared.state.Halt.{Halt}
use Rattle.scasp_rows.specs.declared.state.Halt.TheVariants as halt
use Rattle.scasp_rows.specs.declared.state.Standing.{Standing}
use Rattle.scasp_rows.specs.declared.state.State.{State}
use Rattle.scasp_rows.specs.Points.{is_false}
use Rattle.scasp_rows.specs.Steps.{row_sum}
use Rattle.scasp_rows.specs.Elimination.{and_then, factor, share, size_over}

-- the step that makes the row without x of a lower row and an upper row
abbrev pub meeting : ℕ → Standing → Standing → Step
meeting x l u =
    let g = share (factor x l) (factor x u) in
    record { a = size_over (factor x u) g; p = l.number; b = size_over (factor x l) g; q = u.number }

abbrev pub outlook_of : Option Linear → Outlook
outlook_of None = outlook.Overflow
outlook_of (Some row) = if is_false row then outlook.False else outlook.Open

abbrev pub met_outlook : ℕ → Standing → Standing → Outlook
met_outlook x l u = let m = meeting x l u in outlook_of (row_sum m.a l.row m.b u.row)

-- ---- whether some sum is a false row

abbrev pub is_falsified : Outlook → Bool
is_falsified outlook.Open = false
is_falsified outlook.False = true
is_falsified outlook.Overflow = false

-- of the lower row with an upper row
abbrev pub some_false : ℕ → Standing → List Standing → Bool
some_false x l us = list_any (λ u. is_falsified (met_outlook x l u)) us

-- of a lower row with an upper row
abbrev pub any_false : ℕ → List Standing → List Standing → Bool
any_false x ls us = list_any (λ l. some_false x l us) ls

-- ---- by which a variable y is known to be left in a sum

abbrev pub size_of : ℤ → ℤ
size_of z = pos (unsigned_abs z)

-- the size of the coefficient of x, and the coefficient of y
abbrev pub factors_of : ℕ → ℕ → Standing → Factors
factors_of x y r = record { size = size_of (factor x r); other = factor y r }

-- ---- the steps alone: no row is kept

abbrev pub stepped : Outlook → Step → State → Result State Halt
stepped outlook.Open m s = Ok (record { standing = s.standing; steps = s.steps ++ m ∷ []; last = s.last + 1 })
stepped outlook.False m s = Err (halt.Unsat (s.steps ++ m ∷ []))
stepped outlook.Overflow m s = Err halt.Overflow

abbrev pub paired_steps : ℕ → Standing → List Standing → State → Result State Halt
paired_steps x l [] s = Ok s
paired_steps x l (u ∷ us) s = and_then (stepped (met_outlook x l u) (meeting x l u) s) (paired_steps x l us)

abbrev pub all_paired_steps : ℕ → List Standing → List Standing → State → Result State Halt
all_paired_steps x [] us s = Ok s
all_paired_steps x (l ∷ ls) us s = and_then (paired_steps x l us s) (all_paired_steps x ls us)
